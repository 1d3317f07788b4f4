-- What a note changes of what a pass knows.
use Rattle.std.proofs.Common.{◌≡◌, ℕ, ◌<◌, ◌≤◌, List, [], ◌∷◌, ◌++◌, length, refl, arith}
use Rattle.std.specs.Prelude.{fold, max}
use mathlib.Core.List.{IsPrefix}
use Rattle.otp_model.specs.Core.{Extends}
use Rattle.otp_model.specs.declared.message.Commit.{Commit}
use Rattle.otp_model.proofs.CoreLemmas.{extends_longer, prefix_self}
use Rattle.commit_history.specs.Views.{longest_in}
use Rattle.commit_history.proofs.PrefixLemmas.{extends_more}

fold_push : {A B : Type 0} (f : B → A → B) (a : B) (xs : List A) (x : A) → fold f a (xs ++ x ∷ []) ≡ f (fold f a xs) x
fold_push f a [] x = refl
fold_push f a (y ∷ xs) x = fold_push f (f a y) xs x

longest_push : (known : List (List Commit)) (more : List Commit) → longest_in (known ++ more ∷ []) ≡ max (longest_in known) (length more)
longest_push known more = fold_push (λ most history. max most (length history)) 0 known more

-- a history that is no longer than the longest one
pub learns_short : (known now : List (List Commit)) (seen more : List Commit) (most : ℕ) → now ≡ known ++ more ∷ [] → most ≡ longest_in known → Extends seen known
    → IsPrefix more seen → length more ≤ most → (most ≡ longest_in now) × Extends seen now
learns_short known now seen more most is longest_is extends begins le =
    let same : most ≡ longest_in (known ++ more ∷ []) = rw (longest_push known more, ← longest_is) (omega arith) in
    rw is (same, extends_more seen more known extends begins)

-- a longer one
pub learns_long : (known now : List (List Commit)) (seen more : List Commit) (most : ℕ) → now ≡ known ++ more ∷ [] → most ≡ longest_in known → Extends seen known
    → IsPrefix seen more → most < length more → (length more ≡ longest_in now) × Extends more now
learns_long known now seen more most is longest_is extends begins lt =
    let grown : length more ≡ longest_in (known ++ more ∷ []) = rw (longest_push known more, ← longest_is) (omega arith) in
    rw is (grown, extends_more more more known (extends_longer seen more known begins extends) (prefix_self more))
