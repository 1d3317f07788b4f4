use Rattle.std.proofs.Common.{◌≤◌, ◌+◌, ◌*◌, min, leb, ap, ◌∙◌, sym, arith, w64}
use Rattle.std.proofs.lemmas.Int.{to_z-of_z}
use Rattle.std.specs.Int.RustNames.{unsigned_abs}
use Rattle.lane_kernels.proofs.Discs.{in_reach_abs, clamped, reach_bound, square_at_most}
use Rattle.lane_kernels.proofs.disc.is_near.Goals as goal

pub overflow_add-result : goal.overflow_add-result
overflow_add-result c =
    let a = c.min-across.result in
    let b = c.min-along.result in
    let across : a * a ≤ 5000001 * 5000001 = square_at_most a 5000001 (omega arith) in
    let along : b * b ≤ 5000001 * 5000001 = square_at_most b 5000001 (omega arith) in
    record { fits = omega arith }

pub returns : goal.returns
returns c =
    let a = c.min-across.ensures ∙ ap (λ n. min n 5000001) (c.unsigned_abs.ensures.value ∙ ap unsigned_abs (to_z-of_z w64 c.args.dx c.ranges.dx)) in
    let b = c.min-along.ensures ∙ ap (λ n. min n 5000001) (c.unsigned_abs-2.ensures.value ∙ ap unsigned_abs (to_z-of_z w64 c.args.dy c.ranges.dy)) in
    let r = c.unsigned_abs-radius.ensures.value ∙ ap unsigned_abs (to_z-of_z w64 c.args.reach c.ranges.reach) in
    (λ j. leb (a j * a j + b j * b j) (r j * r j))
    ∙ clamped (unsigned_abs c.args.dx) (unsigned_abs c.args.dy) (unsigned_abs c.args.reach) (reach_bound c.args.reach c.requires)
    ∙ sym (in_reach_abs c.args.dx c.args.dy c.args.reach)
