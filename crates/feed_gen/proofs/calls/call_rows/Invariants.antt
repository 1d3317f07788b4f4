use Rattle.std.proofs.Common.{◌≡◌, ◌≤◌, ◌+◌, ◌*◌, suc, string_bytes}
use Rattle.feed_gen.specs.Draws.{start_of, state_after}
use Rattle.feed_gen.specs.Lines.{before_trip, time_of}
use Rattle.feed_gen.specs.Tables.{call_row}
use Rattle.feed_gen.specs.Texts.{joined}
use Rattle.feed_gen.proofs.calls.call_rows.Given as goal

abbrev pub invariant-loop-call : goal.invariant-loop-call
invariant-loop-call l = record {
  time : l.time ≡ time_of l.seed l.line l.trip l.call;
  day : l.time ≤ 78000 + 180 * l.call;
  rows : string_bytes l.rows ≡ joined (call_row l.seed l.line l.trip) (suc l.call);
  state : l.draws.state ≡ state_after (start_of l.seed l.line) (before_trip l.trip + suc l.call);
}
