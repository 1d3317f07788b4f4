use Rattle.std.proofs.Common.{ℤ, ◌-ℤ◌, pos, List, drop, subst, w64, to_z, of_z}
use Rattle.std.proofs.lemmas.Int.{to_z-of_z}
use Rattle.lane_kernels.specs.Columns.{IsFirstAtLeast}
use Rattle.lane_kernels.specs.Lanes.{NoneWithin, is_above}
use Rattle.lane_kernels.proofs.Places.{first_joined, rest_is}
use Rattle.lane_kernels.proofs.first.first_at_least.Goals as goal

pub returns : goal.returns
returns c =
    let column = c.args.column.now in
    let at = c.loop-at.at in
    let r = c.first_at_least-2.result in
    let none = subst (λ (t : ℤ). NoneWithin (is_above column (t -ℤ pos 1)) 0 at) (to_z-of_z w64 c.args.t c.ranges.t) c.loop-at.invariant.1 in
    first_joined column c.args.t at r c.loop-at.invariant.0 none (subst (λ (t : ℤ). IsFirstAtLeast (drop at column) t r) (to_z-of_z w64 c.args.t c.ranges.t)
    (subst (λ (rest : List ℤ). IsFirstAtLeast rest (to_z w64 (of_z w64 c.args.t)) r) (rest_is column at) c.first_at_least-2.ensures))
