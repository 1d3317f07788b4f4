-- Lists whose keys rise.
use Rattle.std.proofs.Common.{arith, ◌≡◌, ℕ, ◌<◌, ◌≤◌, List, [], ◌++◌, ◌+◌, Option, Some, None}
use Rattle.std.specs.List.{All, AllPairs}
use Rattle.std.specs.Option.{option_to_list}
use Rattle.std.proofs.lemmas.List.{append-nil}
use Rattle.std.proofs.lemmas.List.Elements.{All-push, All-weaker}
use Rattle.std.proofs.lemmas.List.Quantifiers.{all_pairs_push}
use Rattle.otp_base.specs.Adds.{IsOnly}

-- the keys rise, and those so far stand below n
pub record IsRisingTo {X : Type 0} (key : X → ℕ) (n : ℕ) (list : List X) : Type 0 where
  pub rises : AllPairs (λ a b. key a < key b) list
  pub below : All (λ x. key x < n) list

pub rising_none : {X : Type 0} (key : X → ℕ) (n : ℕ) → IsRisingTo key n []
rising_none key n = record { rises = λ i j d l m. absurd (omega arith); below = λ i d l. absurd (omega arith) }

-- what has the key n is added above
pub rising_more : {X : Type 0} (key : X → ℕ) (n : ℕ) (P : X → Type 0) (xs ys : List X) (o : Option X) → ((x : X) → P x → key x ≡ n) → ys ≡ xs ++ option_to_list o → IsOnly P o → IsRisingTo key n xs → IsRisingTo key (n + 1) ys
rising_more {X} key n P xs ys None at e only h =
    rw (e, append-nil xs) record { rises = h.rises; below = All-weaker (λ (x : X). key x < n) (λ (x : X). key x < n + 1) (λ x l. omega arith) xs h.below }
rising_more {X} key n P xs ys (Some y) at e only h =
    let k : key y ≡ n = at y only.0 in
    rw e record {
      rises = all_pairs_push (λ (a : X) (b : X). key a < key b) xs y h.rises (λ k d l. let m = h.below k d l in omega arith);
      below = All-push (λ (x : X). key x < n + 1) xs y (All-weaker (λ (x : X). key x < n) (λ (x : X). key x < n + 1) (λ x l. omega arith) xs h.below) (omega arith);
    }

pub rising_to : {X : Type 0} (key : X → ℕ) (n m : ℕ) (xs : List X) → n ≤ m → IsRisingTo key n xs → IsRisingTo key m xs
rising_to key n m xs l h = record { rises = h.rises; below = All-weaker (λ x. key x < n) (λ x. key x < m) (λ x k. omega (arith, k, l)) xs h.below }
