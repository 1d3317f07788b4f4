-- What a test that answered no tells.
use Rattle.std.proofs.Common.{◌≡◌, ℕ, ◌<◌, ◌≤◌, Bool, false, true, ◌↔◌, IsTrue, sym, ◌∙◌, inl, inr}
use Rattle.std.proofs.lemmas.Bool.{cases_lt}

pub refuted : (b : Bool) (P : Type 0) → IsTrue b ↔ P → b ≡ false → P → ⊥
refuted b P same not holds = let yes_too : b ≡ true = same.1 holds in absurd (cc (sym yes_too ∙ not))

-- the number is not above a limit
pub at_most : (b : Bool) (limit n : ℕ) → IsTrue b ↔ (limit < n) → b ≡ false → n ≤ limit
at_most b limit n same not = elim (cases_lt limit n) [ inl above ↦ absurd (refuted b (limit < n) same not above) | inr below ↦ below ]
