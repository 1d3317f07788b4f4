use Rattle.std.proofs.Common.{◌≡◌, replicate}
use Rattle.change_buffer.specs.Offers.{fresh}
use Rattle.change_buffer.proofs.buffer.Buffer.new.Given as goal

abbrev pub invariant-loop : goal.invariant-loop
invariant-loop l = l.states.items ≡ replicate l.counter fresh
