-- The exchange that adds a commit keeps the rule of the log.
use Rattle.std.proofs.Common.{◌≡◌, ℕ, ◌+◌, ◌<◌, ◌==◌, Bool, true, false, List, [], ◌∷◌, ◌++◌, length, refl, ap, sym, subst, arith, inl, length-append, None}
use Rattle.std.proofs.lemmas.List.{append-nil}
use Rattle.std.proofs.lemmas.Bool.Decides.{nat_tests}
use mathlib.Core.List.{IsPrefix}
use prog.Atomic.{either}
use Rattle.logbook.specs.Pages.{Cell, cell, keeps, no_nib, step, Moves, Goes}
use Rattle.otp_model.specs.declared.message.Commit.{Commit}
use Rattle.commit_history.specs.Logs.{HoldsLength, Adds}
use Rattle.commit_history.proofs.PrefixLemmas.{prefix_whole}

abbrev pub shown : List Commit → List Commit
shown log = []

abbrev pub moved : List Commit → List Commit → ℕ → Type 0
moved before after answer = Unit {0}

-- what the exchange writes: the length with one more, where it found the one that was expected
abbrev pub counted : ℕ → ℕ → ℕ
counted old found = either (found == old) (old + 1) found

-- where the length is the expected one, the log is what was seen, and gets the commit; else it stays
adds_goes : (log seen : List Commit) (commit : Commit) (old : ℕ) → length seen ≡ old → IsPrefix seen log → (b : Bool) → (length log == old) ≡ b
    → Goes HoldsLength shown moved 0 (seen, (no_nib, None)) (counted old) (Adds (step 0 old (old + 1) commit) (seen, (no_nib, None))) ((length log, true) ∷ (0, true) ∷ []) log
adds_goes log seen commit old len begins true is =
    let here : length log ≡ old = grind (arith, nat_tests) in
    let same : seen ≡ log = prefix_whole seen log begins (omega arith) in
    let grown : counted old (length log) ≡ length (log ++ commit ∷ []) = rw is (omega (arith, length-append log (commit ∷ []))) in (
      keeps,
      commit ∷ [],
      None,
      tt,
      ap (λ (n : ℕ). (n, true) ∷ (0, true) ∷ []) grown,
      inl (refl, refl),
      rw is (ap (λ w. w ++ commit ∷ []) (sym same)),
    )
adds_goes log seen commit old len begins false is =
    let all : log ++ [] ≡ log = append-nil log in
    let stays : counted old (length log) ≡ length (log ++ []) = rw is (ap length (sym all)) in (
      keeps,
      [],
      None,
      tt,
      ap (λ (n : ℕ). (n, true) ∷ (0, true) ∷ []) stays,
      inl (refl, refl),
      rw is (ap length all),
    )

-- whatever the log is, the exchange adds the commit to all that was seen, or finds that the log is longer
pub adds_moves : (seen : List Commit) (commit : Commit) (old : ℕ) → length seen ≡ old
    → Moves HoldsLength shown moved 0 (seen, (no_nib, None)) (counted old) (Adds (step 0 old (old + 1) commit) (seen, (no_nib, None)))
adds_moves seen commit old len cells log kept begins away =
    let IsStep : List Cell → Type 0 = λ found. (0 < length found) × ((cell found 0).1 ≡ true)
    × Goes HoldsLength shown moved 0 (seen, (no_nib, None)) (counted old) (Adds (step 0 old (old + 1) commit) (seen, (no_nib, None))) found log in
    subst IsStep (sym kept) (omega arith, refl, adds_goes log seen commit old len begins (length log == old) refl)
