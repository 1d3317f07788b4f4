use Rattle.snapshot_store.proofs.changed.Changed.of.Goals as goal

pub invariant_of-result : goal.invariant_of-result
invariant_of-result c = record { rise = c.requires; marked = c.in_ok-marks.ensures }
