use Rattle.std.proofs.Common.{◌+◌, Some, sym, ap, ◌∙◌, arith}
use Rattle.rt_resolve.specs.Courses.{with_calls}
use Rattle.rt_resolve.proofs.GivenLemmas.{all_given, none_given, one_given}
use Rattle.rt_resolve.proofs.added.given_calls.Goals as goal

pub returns-in_default : goal.returns-in_default
returns-in_default c =
    none_given c.args.lookup.now.stops c.args.updates.now c.loop-update.update-index c.update-item.result c.loop-update-test.true c.update-item.is (c.loop-update.seq + 1)
    (with_calls c.loop-update.course) (sym c.given_call.ensures ∙ c.in_default.is)
    ∙ c.loop-update.invariant.so_far

pub loop-update-preserved : goal.loop-update-preserved
loop-update-preserved c = record {
  so_far =
      one_given c.args.lookup.now.stops c.args.updates.now c.loop-update.update-index c.update-item.result c.loop-update-test.true c.update-item.is (c.loop-update.seq + 1)
      (with_calls c.loop-update.course) (with_calls c.push.new.self) c.in-Some.call (sym c.given_call.ensures ∙ c.in-Some.is) c.in_ok-push.ensures
      ∙ c.loop-update.invariant.so_far;
  seq = omega (arith, c.loop-update.invariant.seq);
}

pub returns : goal.returns
returns c =
    ap Some c.finish.ensures
    ∙ all_given c.args.lookup.now.stops c.args.updates.now c.loop-update.update-index (with_calls c.loop-update.course) (c.loop-update.seq + 1) c.loop-update-test.false
    ∙ c.loop-update.invariant.so_far
