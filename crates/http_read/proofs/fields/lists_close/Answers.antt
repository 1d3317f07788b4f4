use Rattle.std.proofs.Common.{rules, tests, eqb, codes}
use Rattle.std.proofs.lemmas.Iterator.Search.{any_from_yields_List}
use Rattle.std.proofs.lemmas.Iterator.Splits.{YieldsList-from_slice_split}
use Rattle.httparse.specs.Grammar.{trim_ows}
use Rattle.http_read.specs.Fields.{is_same, lists_close}
use Rattle.http_read.proofs.fields.lists_close.Goals as goal

pub returns : goal.returns
unfolding lists_close
returns c =
    any_from_yields_List (λ part. is_same (trim_ows part) (codes "close")) _ _ _ c.any.ensures.ran
    (YieldsList-from_slice_split _ (λ b. eqb b 44) c.args.value.now c.split.ensures.rest c.split.ensures.done c.split.ensures.closure (λ x b q k. search (rules, tests)))
    (λ x b q k. search (rules, tests))
