use Rattle.std.proofs.Common.{inl}
use Rattle.trip_patterns.specs.FirstFit.{rows_of}
use Rattle.snapshot_store.proofs.ShapingLemmas.{joined_at}
use Rattle.snapshot_store.proofs.shaping.put_block.Goals as goal

pub returns-in-Some : goal.returns-in-Some
returns-in-Some c =
    inl (joined_at c.args.pattern.now (rows_of c.args.lanes.now) c.args.shapes.now.items c.deref.result.now c.in-Some.number c.index_mut.result.now c.lower.new.shape c.deref.ensures.value
    c.in-Some.ensures.within c.in-Some.ensures.pattern c.index_mut.ensures.value c.lower.ensures)
