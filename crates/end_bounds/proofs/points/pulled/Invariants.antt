use Rattle.std.proofs.Common.{ℕ, ◌<◌, slice_index_or}
use Rattle.otp_model.specs.declared.timetable.Edge.{Edge}
use Rattle.end_bounds.specs.Points.{IsEdgePoints}
use Rattle.end_bounds.proofs.points.pulled.Given as goal

abbrev pub invariant-loop-edge : goal.invariant-loop-edge
invariant-loop-edge l = (k : ℕ) (d : Edge) → k < l.edge-index → IsEdgePoints l.rates.walk l.rates.board l.ready l.least (slice_index_or l.edges k d)
