use Rattle.std.proofs.Common.{◌≡◌, take}
use Rattle.change_buffer.specs.Commits.{pending_of}
use Rattle.change_buffer.proofs.pending.pending_messages.Given as goal

abbrev pub invariant-loop-place : goal.invariant-loop-place
invariant-loop-place l = l.messages ≡ pending_of (take l.place l.states)
