use Rattle.std.proofs.Common.{◌≡◌, ◌∙◌, ap, arith}
use Rattle.feed_gen.specs.Tables.{trip_rows}
use Rattle.feed_gen.specs.Texts.{joined}
use Rattle.feed_gen.proofs.StepLemmas.{joined_more}
use Rattle.feed_gen.proofs.tables.all_trip_rows.Goals as goal

pub loop-line-preserved : goal.loop-line-preserved
loop-line-preserved c = joined_more trip_rows c.loop-line.line _ _ _ c.loop-line.invariant (c.deref.ensures ∙ c.in_ok-more.ensures) c.in_ok-push_str.ensures.bytes

pub returns : goal.returns
returns c =
    let end : c.loop-line.line ≡ 60 = omega (arith, c.loop-line-test.false, c.loop-line.auto.line-end) in
    c.loop-line.invariant ∙ ap (joined trip_rows) end
