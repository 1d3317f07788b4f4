use Rattle.std.proofs.Common.{◌≡◌, ◌++◌, map}
use Rattle.form_urlencoded.specs.Parse.{raw_pairs_left}
use Rattle.query_form.specs.Pairs.{pair_of, pairs_of}
use Rattle.query_form.proofs.pairs.pairs_of.Given as goal

abbrev pub invariant-loop-name : goal.invariant-loop-name
invariant-loop-name l = l.pairs.items ++ map pair_of (raw_pairs_left l.name-iterator) ≡ pairs_of l.query
