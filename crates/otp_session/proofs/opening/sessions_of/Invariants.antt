use Rattle.std.proofs.Common.{◌≡◌, ◌++◌, length, map}
use Rattle.otp_session.specs.Sessions.{fresh_session}
use Rattle.otp_session.proofs.opening.sessions_of.Given as goal

abbrev pub invariant-loop-alloc : goal.invariant-loop-alloc
invariant-loop-alloc l = l.sessions.items ++ map fresh_session l.passes.items ≡ map fresh_session l.fn.passes.items

abbrev pub decreases-loop-alloc : goal.decreases-loop-alloc
decreases-loop-alloc l = length l.passes.items
