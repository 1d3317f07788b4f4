use Rattle.std.proofs.Common.{sym, ◌∙◌}
use Rattle.lane_kernels.proofs.Discs.{none_across, none_along, strip_seen, is_false}
use Rattle.lane_kernels.proofs.disc.is_far.Goals as goal

pub returns : goal.returns
returns c = λ yes k low high.
    none_across c.args.xs.now c.args.ys.now c.args.x c.args.y c.args.reach k c.requires.reachable
    (sym (strip_seen c.args.xs.now c.args.x c.args.reach k c.requires.coordinates.0 c.requires.reachable) ∙ c.any_in_block.ensures c.if-any_in_block.false k low high)

pub returns-then-any_in_block : goal.returns-then-any_in_block
returns-then-any_in_block c = λ yes k low high.
    none_along c.args.xs.now c.args.ys.now c.args.x c.args.y c.args.reach k c.requires.reachable
    (sym (strip_seen c.args.ys.now c.args.y c.args.reach k c.requires.coordinates.1 c.requires.reachable) ∙ c.any_in_block-then-any_in_block.ensures (is_false c.any_in_block-then-any_in_block.result yes) k low high)
