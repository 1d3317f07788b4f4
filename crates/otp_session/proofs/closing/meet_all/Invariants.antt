use Rattle.std.proofs.Common.{◌≡◌, ℕ, ◌<◌, ◌≤◌, length, slice_index_or}
use Rattle.otp_workers.specs.declared.worker.Worker.{Worker}
use Rattle.otp_session.specs.Closing.{HasMet}
use Rattle.otp_session.specs.Sessions.{SessionView}
use Rattle.otp_session.proofs.closing.meet_all.Given as goal

abbrev pub invariant-loop-i : goal.invariant-loop-i
invariant-loop-i g l = record {
  desk : l.desk ≡ l.fn.desk;
  size : length l.workers ≡ length l.fn.workers;
  rest : (j : ℕ) (d : Worker g.row.P.Denot SessionView) → l.i ≤ j → slice_index_or l.workers j d ≡ slice_index_or l.fn.workers j d;
  met : (j : ℕ) (d : Worker g.row.P.Denot SessionView) → j < l.i → HasMet l.fn.desk.state.history l.first (slice_index_or l.fn.workers j d) (slice_index_or l.workers j d);
}
