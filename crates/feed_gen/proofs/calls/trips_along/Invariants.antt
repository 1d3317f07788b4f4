use Rattle.std.proofs.Common.{◌≡◌, string_bytes}
use Rattle.feed_gen.specs.Draws.{start_of, state_after}
use Rattle.feed_gen.specs.Lines.{before_trip}
use Rattle.feed_gen.specs.Tables.{call_rows}
use Rattle.feed_gen.specs.Texts.{joined}
use Rattle.feed_gen.proofs.calls.trips_along.Given as goal

abbrev pub invariant-loop-trip : goal.invariant-loop-trip
invariant-loop-trip l = record {
  rows : string_bytes l.rows ≡ joined (call_rows l.seed l.line) l.trip;
  state : l.draws.state ≡ state_after (start_of l.seed l.line) (before_trip l.trip);
}
