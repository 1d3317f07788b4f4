use Rattle.std.proofs.Common.{◌≡◌, take}
use Rattle.feed_load.specs.Runs.{call_count}
use Rattle.otp_server.proofs.counts.count_calls.Given as goal

-- the calls of the runs so far are counted
abbrev pub invariant-loop-run : goal.invariant-loop-run
invariant-loop-run l = l.count ≡ call_count (take l.run-index l.runs)
