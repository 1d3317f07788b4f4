use Rattle.std.proofs.Common.{◌≡◌}
use Rattle.feed_gen.specs.Draws.{start_of, state_after}
use Rattle.feed_gen.specs.Messages.{entity_at, place_of}
use Rattle.feed_gen.specs.Texts.{joined}
use Rattle.feed_gen.proofs.messages.entities.Given as goal

abbrev pub invariant-loop-place : goal.invariant-loop-place
invariant-loop-place l = record {
  bytes : l.bytes.items ≡ joined (entity_at l.seed l.part) l.place;
  state : l.draws.state ≡ state_after (start_of l.seed l.part) (place_of l.seed l.part l.place);
}
