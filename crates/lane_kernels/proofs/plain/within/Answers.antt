use Rattle.std.proofs.Common.{length, subst, w64}
use Rattle.std.proofs.lemmas.Int.{to_z-of_z}
use Rattle.lane_kernels.specs.Columns.{AreMarked}
use Rattle.lane_kernels.proofs.Discs.{each_marked}
use Rattle.lane_kernels.proofs.plain.within.Goals as goal

pub returns : goal.returns
returns c =
    let xs = c.args.xs.now in
    let ys = c.args.ys.now in
    each_marked xs ys c.args.x c.args.y c.args.reach c.mark.new.out
    (subst (λ (x : Type 0). x) (λ j. AreMarked xs ys (to_z-of_z w64 c.args.x c.ranges.x j) (to_z-of_z w64 c.args.y c.ranges.y j) (to_z-of_z w64 c.args.reach c.ranges.reach j) 0 (length xs) c.mark.new.out) c.mark.ensures.marked)
