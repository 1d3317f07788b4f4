use Rattle.std.proofs.Common.{◌≡◌, take}
use Rattle.std.specs.Option.{option_map}
use Rattle.change_buffer.specs.Forms.{form_before}
use Rattle.change_buffer.proofs.forms.change_before.Given as goal

abbrev pub invariant-loop-feed : goal.invariant-loop-feed
invariant-loop-feed l = option_map (λ change. change.now.calls) l.last ≡ form_before (take l.feed-index l.feeds) l.name
