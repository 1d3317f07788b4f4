use Rattle.std.proofs.Common.{Ok, Some, ◌∙◌, ap, sym}
use Rattle.query_form.proofs.PairFacts.{alone, twice}
use Rattle.query_form.proofs.pairs.only_value.Goals as goal

pub returns-then-has_named : goal.returns-then-has_named
returns-then-has_named c = sym (twice c.args.pair.now.value c.args.name.now c.args.others.now (sym c.has_named.ensures ∙ c.if-has_named.true))

pub returns : goal.returns
returns c =
    ap (λ value. Ok (Some value)) c.as_str.ensures
    ∙ sym (alone c.args.pair.now.value c.args.name.now c.args.others.now (sym c.has_named.ensures ∙ c.if-has_named.false))
