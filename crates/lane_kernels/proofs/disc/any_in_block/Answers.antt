use Rattle.std.proofs.Common.{◌+◌, ◌*◌, ◌∙◌, sym, arith, w64, to_z, of_z}
use Rattle.std.proofs.lemmas.Int.{to_z-of_z}
use Rattle.lane_kernels.specs.Lanes.{is_between}
use Rattle.lane_kernels.proofs.Places.{none_joined}
use Rattle.lane_kernels.proofs.disc.any_in_block.Goals as goal

pub loop-group-preserved : goal.loop-group-preserved
loop-group-preserved c = λ k low high.
    let p = is_between c.args.column.now (to_z w64 (of_z w64 c.args.low)) (to_z w64 (of_z w64 c.args.high)) in
    let middle = c.args.at + 8 * c.loop-group.group in
    none_joined p c.args.at middle (middle + 8) c.loop-group.invariant c.if-any_between.ensures k low (omega arith)

pub returns : goal.returns
returns c = λ e k low high.
    sym (λ j. is_between c.args.column.now (to_z-of_z w64 c.args.low c.ranges.low j) (to_z-of_z w64 c.args.high c.ranges.high j) k) ∙ c.loop-group.invariant k low (omega arith)
