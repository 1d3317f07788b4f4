use Rattle.std.proofs.Common.{◌+◌, length, subst, arith, w64, to_z, of_z}
use Rattle.std.proofs.lemmas.Int.{to_z-of_z}
use Rattle.lane_kernels.specs.Columns.{AreMarked}
use Rattle.lane_kernels.proofs.Discs.{marks_joined, each_marked}
use Rattle.lane_kernels.proofs.disc.within.Goals as goal

pub loop-at-preserved : goal.loop-at-preserved
loop-at-preserved c =
    let joined = marks_joined c.args.xs.now c.args.ys.now (to_z w64 (of_z w64 c.args.x)) (to_z w64 (of_z w64 c.args.y)) (to_z w64 (of_z w64 c.args.reach)) 0 c.loop-at.at (c.loop-at.at + 64) c.loop-at.out c.mark_block.new.out
    c.loop-at.invariant.2 c.mark_block.ensures.kept c.mark_block.ensures.marked in
    (omega arith, omega arith, joined)

pub returns : goal.returns
returns c =
    let xs = c.args.xs.now in
    let ys = c.args.ys.now in
    let out = c.mark.new.out in
    let joined = marks_joined xs ys (to_z w64 (of_z w64 c.args.x)) (to_z w64 (of_z w64 c.args.y)) (to_z w64 (of_z w64 c.args.reach)) 0 c.loop-at.at (length xs) c.loop-at.out out
    c.loop-at.invariant.2 c.mark.ensures.kept c.mark.ensures.marked in
    each_marked xs ys c.args.x c.args.y c.args.reach out
    (subst (λ (x : Type 0). x) (λ j. AreMarked xs ys (to_z-of_z w64 c.args.x c.ranges.x j) (to_z-of_z w64 c.args.y c.ranges.y j) (to_z-of_z w64 c.args.reach c.ranges.reach j) 0 (length xs) out) joined)
