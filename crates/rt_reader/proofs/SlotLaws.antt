-- What a walk leaves in each slot of the state: the last value, or all of them in order.
use Rattle.std.proofs.Common.{◌≡◌, List, [], ◌∷◌, ◌++◌, map, Option, Some, None, refl, sym, ap, ◌∙◌, append_assoc}
use Rattle.std.specs.Prelude.{option_map, option_to_list, unwrap_or}
use Rattle.std.proofs.lemmas.List.{append-nil}
use Rattle.pb_wire.specs.declared.field.Field.{Field}
use Rattle.rt_reader.specs.Fields.{later}
use Rattle.rt_reader.specs.Tables.{all, last_in, last}
use Rattle.rt_reader.specs.Walk.{walk_value}
use Rattle.rt_reader.proofs.Lists.{all_map}

later_one : {X : Type 0} (a o : Option X) (xs : List X) → later (later a o) (last_in xs) ≡ later a (last_in (option_to_list o ++ xs))
later_one a None xs = refl
later_one a (Some x) xs = two (last_in xs)
  where
    two : (l : Option _) → later (later a (Some x)) l ≡ later a (later (Some x) l)
    two None = refl
    two (Some y) = refl

or_one : {X : Type 0} (d : X) (o : Option X) (xs : List X) → unwrap_or (last_in xs) (unwrap_or o d) ≡ unwrap_or (last_in (option_to_list o ++ xs)) d
or_one d None xs = refl
or_one d (Some x) xs = two (last_in xs)
  where
    two : (l : Option _) → unwrap_or l x ≡ unwrap_or (later (Some x) l) d
    two None = refl
    two (Some y) = refl

walk_last : {X Y : Type 0} (slot : X → Option Y) (add : X → Field → X) (g : Field → Option Y) → ((x : X) (f : Field) → slot (add x f) ≡ later (slot x) (g f))
    → (fs : List Field) (x : X) → slot (walk_value add x fs) ≡ later (slot x) (last g fs)
unfolding walk_value
walk_last slot add g h [] x = refl
walk_last slot add g h (f ∷ fs) x = walk_last slot add g h fs (add x f) ∙ ap (λ z. later z (last g fs)) (h x f) ∙ later_one (slot x) (g f) (all g fs)

later_none : {X : Type 0} (o : Option X) → later None o ≡ o
later_none None = refl
later_none (Some x) = refl

pub slot_last : {X Y : Type 0} (slot : X → Option Y) (add : X → Field → X) (blank : X) (g : Field → Option Y) → ((x : X) (f : Field) → slot (add x f) ≡ later (slot x) (g f)) → slot blank ≡ None
    → (fs : List Field) → slot (walk_value add blank fs) ≡ last g fs
slot_last slot add blank g h e fs = walk_last slot add g h fs blank ∙ ap (λ z. later z (last g fs)) e ∙ later_none (last g fs)

pub slot_or : {X Y : Type 0} (slot : X → Y) (add : X → Field → X) (g : Field → Option Y) → ((x : X) (f : Field) → slot (add x f) ≡ unwrap_or (g f) (slot x))
    → (fs : List Field) (x : X) → slot (walk_value add x fs) ≡ unwrap_or (last g fs) (slot x)
unfolding walk_value
slot_or slot add g h [] x = refl
slot_or slot add g h (f ∷ fs) x = slot_or slot add g h fs (add x f) ∙ ap (λ z. unwrap_or (last g fs) z) (h x f) ∙ or_one (slot x) (g f) (all g fs)

pub slot_all : {X Y : Type 0} (slot : X → List Y) (add : X → Field → X) (g : Field → Option Y) → ((x : X) (f : Field) → slot (add x f) ≡ slot x ++ option_to_list (g f))
    → (fs : List Field) (x : X) → slot (walk_value add x fs) ≡ slot x ++ all g fs
unfolding walk_value
slot_all slot add g h [] x = sym (append-nil (slot x))
slot_all slot add g h (f ∷ fs) x = slot_all slot add g h fs (add x f) ∙ ap (λ z. z ++ all g fs) (h x f) ∙ append_assoc (slot x) (option_to_list (g f)) (all g fs)

last_map : {X Y : Type 0} (h : X → Y) (xs : List X) → last_in (map h xs) ≡ option_map h (last_in xs)
last_map h [] = refl
last_map h (x ∷ xs) = ap (later (Some (h x))) (last_map h xs) ∙ one (last_in xs)
  where
    one : (o : Option _) → later (Some (h x)) (option_map h o) ≡ option_map h (later (Some x) o)
    one None = refl
    one (Some y) = refl

pub last_option_map : {X Y : Type 0} (h : X → Y) (g : Field → Option X) (fs : List Field) → last (λ f. option_map h (g f)) fs ≡ option_map h (last g fs)
last_option_map h g fs = ap last_in (all_map h g fs) ∙ last_map h (all g fs)
