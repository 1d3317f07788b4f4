use Rattle.std.proofs.Common.{◌≡◌, ◌++◌, ◌∙◌, ap, sym, map}
use Rattle.std.specs.Arc.{arc_value}
use Rattle.std.proofs.lemmas.List.{map_push, take-append-drop}
use Rattle.snapshot_store.proofs.BlockLemmas.{more_done}
use Rattle.snapshot_store.proofs.grouping.blocks_in_order.Goals as goal

pub loop-rest-preserved : goal.loop-rest-preserved
loop-rest-preserved g c =
    let rest = c.loop-rest.rest.now in
    let count = c.block_length.result in
    let parts : rest ≡ c.split_at.result.0.now ++ c.split_at.result.1.now
    = sym ((λ i. c.split_at.ensures.front i ++ c.split_at.ensures.back i) ∙ take-append-drop count rest) in
    more_done c.args.runs.now rest c.split_at.result.0.now c.split_at.result.1.now (map arc_value c.loop-rest.blocks.items) (map arc_value c.push.new.self.items)
    (arc_value c.in_ok-block_of.field-0) c.args.steps.now c.loop-rest.steps c.block_of.new.steps c.loop-rest.invariant parts
    (ap (map arc_value) c.in_ok-push.ensures.items ∙ map_push arc_value c.loop-rest.blocks.items c.in_ok-block_of.field-0)
    c.in_ok-block_of.ensures.block c.in_ok-block_of.ensures.counted
