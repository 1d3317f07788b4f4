use Rattle.std.proofs.Common.{List, rules, subst, sym}
use Rattle.otp_model.specs.Ranges.{CanSearch}
use Rattle.otp_model.specs.declared.timetable.Run.{Run}
use Rattle.plan_bench.proofs.plans.compare.Goals as goal

pub all_best-requires : goal.all_best-requires
all_best-requires c =
    let can : CanSearch c.args.loaded.now.feed.runs c.args.loaded.now.edges c.args.request.now = search rules in
    subst (λ (runs : List Run). CanSearch runs c.args.loaded.now.edges c.args.request.now) (sym c.as_slice.ensures) can
