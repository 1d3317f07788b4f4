use Rattle.std.proofs.Common.{sym, ◌∙◌, w64}
use Rattle.std.proofs.lemmas.Int.{to_z-of_z}
use Rattle.lane_kernels.specs.Columns.{is_within}
use Rattle.lane_kernels.proofs.disc.mark_block.Goals as goal

pub returns-then-is_far-clause-marked : goal.returns-then-is_far-clause-marked
returns-then-is_far-clause-marked c = λ k low high.
    c.mark_none.ensures.marked k low high ∙ sym (c.is_far.ensures c.if-is_far.true k low high)
    ∙ (λ j. is_within c.args.xs.now c.args.ys.now (to_z-of_z w64 c.args.x c.ranges.x j) (to_z-of_z w64 c.args.y c.ranges.y j) (to_z-of_z w64 c.args.reach c.ranges.reach j) k)

pub returns-clause-marked : goal.returns-clause-marked
returns-clause-marked c = λ k low high.
    c.mark_near.ensures.marked k low high
    ∙ (λ j. is_within c.args.xs.now c.args.ys.now (to_z-of_z w64 c.args.x c.ranges.x j) (to_z-of_z w64 c.args.y c.ranges.y j) (to_z-of_z w64 c.args.reach c.ranges.reach j) k)
