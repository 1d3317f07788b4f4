-- Lists that grow at their end or are written, and the bags over them.
use Rattle.std.proofs.Common.{◌≡◌, ◌⊎◌, inl, inr, ℕ, suc, zero, ◌+◌, ◌-◌, ◌≤◌, ◌<◌, ℤ, pos, List, [], ◌∷◌, ◌++◌, Option, Some, None, length, refl, sym, ap, subst, ◌∙◌, arith, slice_set}
use Rattle.std.specs.List.{slice_get}
use Rattle.std.proofs.lemmas.List.{get_or_append_left, get_or_push, length_push}
use Rattle.std.proofs.lemmas.Option.{get_or_from_slice_get, slice_get-get_or, slice_get_within, same_Some}
use Rattle.otp_base.specs.EachAt.{EachAt}
use Rattle.otp_base.proofs.EachAtLemmas.{each_push}
use Rattle.label_bags.specs.declared.label.Label.{Label}
use Rattle.label_bags.specs.Bags.{IsCovered, IsUpheld}
use Rattle.raptor_rounds.specs.declared.bags.StopBags.{StopBags}
use Rattle.raptor_rounds.specs.declared.node.Node.{Node}
use Rattle.raptor_rounds.specs.States.{AreBags, AreBagsAt, AreBagsIn, CoverStill, IsBagAt, IsKeptCovered, IsLabelAt, bag_at, bag_in, bag_or_none, label_of, labels_in}

module _ {X : Type 0} where
  pub kept_push : (xs : List X) (y : X) (i : ℕ) (x : X) → slice_get xs i ≡ Some x → slice_get (xs ++ y ∷ []) i ≡ Some x
  kept_push xs y i x h =
      let less = slice_get_within xs i x h in
      slice_get-get_or (xs ++ y ∷ []) i x (omega (arith, less, length_push xs y)) ∙ ap (λ (z : X). Some z) (get_or_append_left xs (y ∷ []) x i less ∙ get_or_from_slice_get xs i x x h)

  pub last_push : (xs : List X) (y : X) → slice_get (xs ++ y ∷ []) (length xs) ≡ Some y
  last_push xs y = slice_get-get_or (xs ++ y ∷ []) (length xs) y (omega (arith, length_push xs y)) ∙ ap (λ (z : X). Some z) (get_or_push xs y y (length xs) refl)

  pub push_cases : (xs : List X) (y : X) (i : ℕ) (x : X) → slice_get (xs ++ y ∷ []) i ≡ Some x → (slice_get xs i ≡ Some x) ⊎ (y ≡ x)
  push_cases xs y = each_push (λ i x. (slice_get xs i ≡ Some x) ⊎ (y ≡ x)) xs y (λ i x h. inl h) (inr refl)

  set_cases : (xs : List X) (i : ℕ) (v : X) (k : ℕ) (x : X) → slice_get (slice_set xs i v) k ≡ Some x → (k ≡ i) × (v ≡ x) ⊎ (slice_get xs k ≡ Some x)
  set_cases [] i v k x e = inr e
  set_cases (z ∷ xs) zero v zero x e = inl (refl, same_Some v x e)
  set_cases (z ∷ xs) zero v (suc k) x e = inr e
  set_cases (z ∷ xs) (suc i) v zero x e = inr e
  set_cases (z ∷ xs) (suc i) v (suc k) x e = elim (set_cases xs i v k x e) [ inl h ↦ inl (ap suc h.0, h.1) | inr h ↦ inr h ]

  pub each_set : (P : ℕ → X → Type 0) (xs : List X) (i : ℕ) (v : X) → EachAt P xs → P i v → EachAt P (slice_set xs i v)
  each_set P xs i v each new k x h = elim (set_cases xs i v k x h) [
    | inl at ↦ subst (λ (n : ℕ). P n x) (sym at.0) (subst (P i) at.1 new)
    | inr old ↦ each k x old
  ]

  -- what holds of what is read, and of nothing else, holds of what is read of a list that grew or was written
  pub push_still : (Q : Option X → Type 0) (xs : List X) (y : X) (k : ℕ) → (Q None → ⊥) → Q (slice_get xs k) → Q (slice_get (xs ++ y ∷ []) k)
  push_still Q [] y k never h = absurd (never h)
  push_still Q (z ∷ xs) y zero never h = h
  push_still Q (z ∷ xs) y (suc k) never h = push_still Q xs y k never h

  pub set_still : (Q : Option X → Type 0) (xs : List X) (i : ℕ) (v : X) (k : ℕ) → (Q (slice_get xs i) → Q (Some v)) → Q (slice_get xs k) → Q (slice_get (slice_set xs i v) k)
  set_still Q [] i v k new h = h
  set_still Q (z ∷ xs) zero v zero new h = new h
  set_still Q (z ∷ xs) zero v (suc k) new h = h
  set_still Q (z ∷ xs) (suc i) v zero new h = h
  set_still Q (z ∷ xs) (suc i) v (suc k) new h = set_still Q xs i v k new h

  pub read_set : (xs : List X) (i : ℕ) (v : X) → i < length xs → slice_get (slice_set xs i v) i ≡ Some v
  read_set [] i v less = absurd (omega (arith, less))
  read_set (z ∷ xs) zero v less = refl
  read_set (z ∷ xs) (suc i) v less = read_set xs i v (omega (arith, less))

-- ---- bags that are made empty

none_covered : (time penalty : ℤ) → IsCovered [] time penalty → ⊥
none_covered time penalty h = absurd (omega (arith, h.2))

pub bags_in_more : (arena : List Node) (stop : ℕ) (bags : List (List Label)) → AreBagsIn arena stop bags → AreBagsIn arena stop (bags ++ [] ∷ [])
bags_in_more arena stop bags each = each_push (IsBagAt arena stop) bags [] each (λ l on. absurd (omega (arith, on.1)))

pub bags_more : (arena : List Node) (bags : List StopBags) (at : StopBags) → at.bags.items ≡ [] → AreBags arena bags → AreBags arena (bags ++ at ∷ [])
bags_more arena bags at none each = each_push (AreBagsAt arena) bags at each (rw none (λ k bag h. absurd (omega (arith, slice_get_within [] k bag h))))

pub still_in_more : (bags : List (List Label)) → CoverStill (bag_at bags) (bag_at (bags ++ [] ∷ []))
still_in_more bags place time penalty h = push_still (λ (o : Option (List Label)). IsCovered (bag_or_none o) time penalty) bags [] place (none_covered time penalty) h

pub still_more : (bags : List StopBags) (at : StopBags) (stop : ℕ) → CoverStill (bag_in (slice_get bags stop)) (bag_in (slice_get (bags ++ at ∷ []) stop))
still_more bags at stop place time penalty h = push_still (λ (o : Option StopBags). IsCovered (bag_in o place) time penalty) bags at stop (none_covered time penalty) h

-- ---- bags over an arena that grows

pub label_kept : (arena : List Node) (n : Node) (stop rides : ℕ) (l : Label) → IsLabelAt arena stop rides l → IsLabelAt (arena ++ n ∷ []) stop rides l
label_kept arena n stop rides l h = record {
  node = h.node;
  node_is = kept_push arena n l.number h.node h.node_is;
  stop_is = h.stop_is;
  rides_are = h.rides_are;
  time_is = h.time_is;
  penalty_is = h.penalty_is;
}

pub bags_in_kept : (arena : List Node) (n : Node) (stop : ℕ) (bags : List (List Label)) → AreBagsIn arena stop bags → AreBagsIn (arena ++ n ∷ []) stop bags
bags_in_kept arena n stop bags each k bag h l on = label_kept arena n stop (k + 1) l (each k bag h l on)

pub bags_kept : (arena : List Node) (n : Node) (bags : List StopBags) → AreBags arena bags → AreBags (arena ++ n ∷ []) bags
bags_kept arena n bags each stop at h = bags_in_kept arena n stop at.bags.items (each stop at h)

-- the bag that the newest label came into
pub bag_put : (arena : List Node) (n : Node) (number : ℕ) (label : Label) (old new : List Label) → length arena ≡ number → 1 ≤ n.rides → label ≡ label_of n number
    → IsBagAt arena n.stop (n.rides - 1) old → IsUpheld old label new → IsBagAt (arena ++ n ∷ []) n.stop (n.rides - 1) new
bag_put arena n number label old new last some label_is bag put l on = elim (put.only l on) [
  | inl was ↦ label_kept arena n n.stop ((n.rides - 1) + 1) l (bag l was)
  | inr same ↦ newest (same ∙ label_is)
]
  where
    newest : l ≡ label_of n number → IsLabelAt (arena ++ n ∷ []) n.stop ((n.rides - 1) + 1) l
    newest is = record {
      node = n;
      node_is = subst (λ (z : Label). slice_get (arena ++ n ∷ []) z.number ≡ Some n) (sym is) (subst (λ (i : ℕ). slice_get (arena ++ n ∷ []) i ≡ Some n) last (last_push arena n));
      stop_is = refl;
      rides_are = omega (arith, some);
      time_is = ap (λ (z : Label). z.time) is;
      penalty_is = ap (λ (z : Label). z.penalty) is;
    }

-- ---- the labels that bags cover

pub still_in_put : (made : List (List Label)) (at : ℕ) (label : Label) (old new : List Label) → slice_get made at ≡ Some old → IsUpheld old label new → CoverStill (bag_at made) (bag_at (slice_set made at new))
still_in_put made at label old new was put place time penalty h =
    set_still (λ (o : Option (List Label)). IsCovered (bag_or_none o) time penalty) made at new place
    (λ covered. put.still time penalty (subst (λ (o : Option (List Label)). IsCovered (bag_or_none o) time penalty) was covered)) h

pub covered_in_put : (made : List (List Label)) (at number : ℕ) (n : Node) (label : Label) (old new : List Label) → at < length made → label ≡ label_of n number → IsUpheld old label new
    → IsCovered (bag_at (slice_set made at new) at) n.time (pos n.penalty)
covered_in_put made at number n label old new less is put =
    subst (λ (o : Option (List Label)). IsCovered (bag_or_none o) n.time (pos n.penalty)) (sym (read_set made at new less)) (subst (λ (l : Label). IsCovered new l.time l.penalty) is put.covered)

pub covered_put : (arena : List Node) (n : Node) (before made : List StopBags) (old new : StopBags) → ((stop : ℕ) → CoverStill (bag_in (slice_get before stop)) (bag_in (slice_get made stop))) → n.stop < length made
    → slice_get made n.stop ≡ Some old → CoverStill (bag_at old.bags.items) (bag_at new.bags.items) → IsCovered (bag_at new.bags.items (n.rides - 1)) n.time (pos n.penalty)
    → EachAt (IsKeptCovered before) arena → EachAt (IsKeptCovered (slice_set made n.stop new)) (arena ++ n ∷ [])
covered_put arena n before made old new more less was still has each =
    each_push (IsKeptCovered (slice_set made n.stop new)) arena n (λ i m h. later m (each i m h))
    (subst (λ (o : Option StopBags). IsCovered (bag_in o (n.rides - 1)) n.time (pos n.penalty)) (sym (read_set made n.stop new less)) has)
  where
    later : (m : Node) → IsCovered (labels_in before m.stop m.rides) m.time (pos m.penalty) → IsCovered (labels_in (slice_set made n.stop new) m.stop m.rides) m.time (pos m.penalty)
    later m h =
        set_still (λ (o : Option StopBags). IsCovered (bag_in o (m.rides - 1)) m.time (pos m.penalty)) made n.stop new m.stop
        (λ covered. still (m.rides - 1) m.time (pos m.penalty) (subst (λ (o : Option StopBags). IsCovered (bag_in o (m.rides - 1)) m.time (pos m.penalty)) was covered))
        (more m.stop (m.rides - 1) m.time (pos m.penalty) h)
