use Rattle.std.proofs.Common.{◌≡◌, ◌∙◌, ap, arith}
use Rattle.feed_gen.specs.Tables.{line_rows}
use Rattle.feed_gen.specs.Texts.{joined}
use Rattle.feed_gen.proofs.StepLemmas.{joined_more}
use Rattle.std.proofs.lemmas.Result.{err_from_is_err_and}
use Rattle.feed_gen.proofs.calls.all_rows.Goals as goal

pub loop-line-preserved : goal.loop-line-preserved
loop-line-preserved c = joined_more (line_rows c.args.seed) c.loop-line.line _ _ _ c.loop-line.invariant (c.deref.ensures ∙ c.in_ok-more.ensures) c.in_ok-push_str.ensures.bytes

pub returns : goal.returns
returns c =
    let end : c.loop-line.line ≡ 60 = omega (arith, c.loop-line-test.false, c.loop-line.auto.line-end) in
    c.loop-line.invariant ∙ ap (joined (line_rows c.args.seed)) end

pub returns-in_err-push_str : goal.returns-in_err-push_str
returns-in_err-push_str c =
    let p = err_from_is_err_and c.from_residual-in_err-push_str.result c.from_residual-in_err-push_str.ensures.1 in
    rw (p.1, p.2) tt
