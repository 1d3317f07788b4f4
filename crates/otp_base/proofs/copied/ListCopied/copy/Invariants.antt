use Rattle.std.specs.Prelude.{◌≡◌, take}
use Rattle.otp_base.proofs.copied.ListCopied.copy.Given as goal

abbrev pub invariant-loop-item : goal.invariant-loop-item
invariant-loop-item g l = l.copies.items ≡ take l.item-index l.item-items
