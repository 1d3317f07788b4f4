-- What isn't text fails the test for text.
use Rattle.std.proofs.Common.{◌≡◌, ℕ, List, false, inl, inr}
use Rattle.std.proofs.lemmas.Bool.{cases_Bool}
use Rattle.std.proofs.lemmas.Str.{IsUtf8-from_is_utf8}
use Rattle.std.specs.Prelude.{IsUtf8}
use Rattle.std.specs.Str.{is_utf8}

pub not_text : (bytes : List ℕ) → ¬ (IsUtf8 bytes) → is_utf8 bytes ≡ false
not_text bytes refused = elim (cases_Bool (is_utf8 bytes)) [ inl good ↦ absurd (refused (IsUtf8-from_is_utf8 bytes good)) | inr bad ↦ bad ]
