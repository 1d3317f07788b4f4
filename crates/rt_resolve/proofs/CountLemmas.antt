-- How many answers are each of the nine reasons.
use Rattle.std.proofs.Common.{◌≡◌, ◌≢◌, ℕ, ◌+◌, ◌<◌, ◌≤◌, suc, zero, List, [], ◌∷◌, ◌++◌, length, get_or, set, map, Bool, true, false, cond, Result, Ok, Err, refl, sym, ap, ◌∙◌, add-zero, arith}
use Rattle.std.specs.Prelude.{◌==◌, count_by, sum_by}
use Rattle.std.specs.List.{range_with_len}
use Rattle.std.proofs.lemmas.Bool.{eq-eqb, ne_eqb}
use Rattle.std.proofs.lemmas.List.Sums.{count_by-le-length, sum_by-append, sum_by-cons}
use Rattle.otp_model.specs.Resolution.{has_reason}
use Rattle.otp_model.specs.declared.change.Change.{Change}
use Rattle.rt_resolve.specs.Tallies.{counts}

module _ (f g : ℕ → ℕ) where
  same_from : (n m : ℕ) → ((k : ℕ) → n ≤ k → g k ≡ f k) → map f (range_with_len n m) ≡ map g (range_with_len n m)
  same_from n zero same = refl
  same_from n (suc m) same = λ i. sym (same n (omega arith)) i ∷ same_from (n + 1) m (λ k l. same k (omega arith)) i

  -- the values of f with the one at a place made one more
  bumped : (n m place : ℕ) → place < m → g (n + place) ≡ f (n + place) + 1 → ((k : ℕ) → k ≢ n + place → g k ≡ f k)
      → set (map f (range_with_len n m)) place (get_or (map f (range_with_len n m)) place 0 + 1) ≡ map g (range_with_len n m)
  bumped n zero place less here other = absurd (omega arith)
  bumped n (suc m) zero less here other =
      let first : g n ≡ f n + 1 = rw add-zero at here in
      λ i. sym first i ∷ same_from (n + 1) m (λ k l. other k (λ e. absurd (omega arith))) i
  bumped n (suc m) (suc place) less here other =
      let shift : n + suc place ≡ n + 1 + place = omega arith in
      λ i. sym (other n (λ e. absurd (omega arith))) i ∷ bumped (n + 1) m place (omega arith) (rw shift at here) (λ k l. other k (λ e. l (e ∙ shift))) i

bounded : (f : ℕ → ℕ) (most : ℕ) → ((k : ℕ) → f k ≤ most) → (n m place : ℕ) → get_or (map f (range_with_len n m)) place 0 ≤ most
bounded f most each n zero place = omega arith
bounded f most each n (suc m) zero = each n
bounded f most each n (suc m) (suc place) = bounded f most each (n + 1) m place

-- none of the counts is more than the answers
pub counts_small : (answers : List (Result Change ℕ)) (place : ℕ) → get_or (counts answers) place 0 ≤ length answers
counts_small answers place = bounded (λ (reason : ℕ). count_by (has_reason reason) answers) (length answers) (λ reason. count_by-le-length (has_reason reason) answers) 1 9 place

count_last : (p : Result Change ℕ → Bool) (answers : List (Result Change ℕ)) (answer : Result Change ℕ)
    → count_by p (answers ++ answer ∷ []) ≡ count_by p answers + cond (p answer) 1 0
count_last p answers answer =
    let f : Result Change ℕ → ℕ = λ x. cond (p x) 1 0 in
    let one : sum_by f (answer ∷ []) ≡ f answer + 0 = sum_by-cons f answer [] in
    sum_by-append f answers (answer ∷ []) ∙ ap (λ (n : ℕ). count_by p answers + n) (one ∙ add-zero (f answer))

-- a change is none of the reasons
pub counts_change : (answers : List (Result Change ℕ)) (change : Change) → counts answers ≡ counts (answers ++ Ok change ∷ [])
counts_change answers change =
    same_from (λ (reason : ℕ). count_by (has_reason reason) answers) (λ (reason : ℕ). count_by (has_reason reason) (answers ++ Ok change ∷ [])) 1 9
    (λ reason l. count_last (has_reason reason) answers (Ok change) ∙ add-zero (count_by (has_reason reason) answers))

-- a reason is counted at its place
pub counts_reason : (answers : List (Result Change ℕ)) (reason place : ℕ) → place + 1 ≡ reason → place < 9
    → set (counts answers) place (get_or (counts answers) place 0 + 1) ≡ counts (answers ++ Err reason ∷ [])
counts_reason answers reason place number less =
    bumped (λ (r : ℕ). count_by (has_reason r) answers) (λ (r : ℕ). count_by (has_reason r) (answers ++ Err reason ∷ [])) 1 9 place less here other
  where
    here : count_by (has_reason (1 + place)) (answers ++ Err reason ∷ []) ≡ count_by (has_reason (1 + place)) answers + 1
    here =
        let e : reason ≡ 1 + place = omega arith in
        let is : (reason == (1 + place)) ≡ true = eq-eqb reason (1 + place) e in
        count_last (has_reason (1 + place)) answers (Err reason) ∙ ap (λ (b : Bool). count_by (has_reason (1 + place)) answers + cond b 1 0) is

    other : (r : ℕ) → r ≢ 1 + place → count_by (has_reason r) (answers ++ Err reason ∷ []) ≡ count_by (has_reason r) answers
    other r differs =
        let is : (reason == r) ≡ false = ne_eqb reason r (λ e. differs (omega arith)) in
        count_last (has_reason r) answers (Err reason) ∙ ap (λ (b : Bool). count_by (has_reason r) answers + cond b 1 0) is ∙ add-zero (count_by (has_reason r) answers)
