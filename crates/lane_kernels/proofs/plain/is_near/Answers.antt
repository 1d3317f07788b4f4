use Rattle.std.proofs.Common.{◌+◌, ◌*◌, leb, ap, ◌∙◌, sym, arith, w64}
use Rattle.std.proofs.lemmas.Int.{to_z-of_z}
use Rattle.std.specs.Int.RustNames.{unsigned_abs}
use Rattle.lane_kernels.proofs.Discs.{in_reach_abs, far_across, far_along}
use Rattle.lane_kernels.proofs.plain.is_near.Goals as goal

pub returns-then-radius-across : goal.returns-then-radius-across
returns-then-radius-across c =
    let a = c.unsigned_abs-across.ensures.value ∙ ap unsigned_abs (to_z-of_z w64 c.args.dx c.ranges.dx) in
    let r = c.unsigned_abs-radius.ensures.value ∙ ap unsigned_abs (to_z-of_z w64 c.args.reach c.ranges.reach) in
    sym (far_across c.args.dx c.args.dy c.args.reach (omega (arith, a, r)))

pub returns-then-radius-along : goal.returns-then-radius-along
returns-then-radius-along c =
    let b = c.unsigned_abs-along.ensures.value ∙ ap unsigned_abs (to_z-of_z w64 c.args.dy c.ranges.dy) in
    let r = c.unsigned_abs-radius.ensures.value ∙ ap unsigned_abs (to_z-of_z w64 c.args.reach c.ranges.reach) in
    sym (far_along c.args.dx c.args.dy c.args.reach (omega (arith, b, r)))

pub returns : goal.returns
returns c =
    let a = c.unsigned_abs-across.ensures.value ∙ ap unsigned_abs (to_z-of_z w64 c.args.dx c.ranges.dx) in
    let b = c.unsigned_abs-along.ensures.value ∙ ap unsigned_abs (to_z-of_z w64 c.args.dy c.ranges.dy) in
    let r = c.unsigned_abs-radius.ensures.value ∙ ap unsigned_abs (to_z-of_z w64 c.args.reach c.ranges.reach) in
    (λ j. leb (a j * a j + b j * b j) (r j * r j)) ∙ sym (in_reach_abs c.args.dx c.args.dy c.args.reach)
