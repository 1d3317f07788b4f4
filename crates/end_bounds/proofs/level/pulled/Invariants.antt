use Rattle.std.proofs.Common.{ℕ, ◌<◌, slice_index_or}
use Rattle.otp_model.specs.declared.timetable.Edge.{Edge}
use Rattle.end_bounds.specs.Levels.{IsEdgeBound}
use Rattle.end_bounds.proofs.level.pulled.Given as goal

abbrev pub invariant-loop-edge : goal.invariant-loop-edge
invariant-loop-edge l = (k : ℕ) (d : Edge) → k < l.edge-index → IsEdgeBound l.slack l.ready l.least (slice_index_or l.edges k d)
