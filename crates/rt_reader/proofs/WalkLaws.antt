-- Walking with a state finds the same fault as looking back at the fields before.
use Rattle.std.proofs.Common.{◌≡◌, ℕ, Bool, true, false, cond, eqb, List, [], ◌∷◌, ◌++◌, Option, Result, Ok, Err, refl, ap, ◌∙◌}
use Rattle.std.specs.Prelude.{is_some, option_map}
use Rattle.std.proofs.lemmas.Bool.{eqb-true}
use Rattle.pb_wire.specs.declared.field.Field.{Field}
use Rattle.pb_wire.specs.declared.field.FieldValue.{FieldValue}
use Rattle.pb_wire.specs.declared.field.FieldValue.TheVariants as value
use Rattle.pb_wire.specs.declared.field.WireFault.{WireFault}
use Rattle.rt_reader.specs.declared.fault.MessageFault.{MessageFault}
use Rattle.rt_reader.specs.Faults.{first}
use Rattle.rt_reader.specs.Fields.{Part, Reading, skipped, number, words, one, many, part_in, later, wrong_value, wrong_one, wrong_many}
use Rattle.rt_reader.specs.Tables.{wrong_cut, first_wrong, wrong_part, all, some_in, event_table, stop_table, descriptor_table, trip_table, entity_table, header_table, feed_table, event_wrong, stop_wrong, descriptor_wrong, trip_wrong, entity_wrong, header_wrong, feed_wrong}
use Rattle.rt_reader.specs.Walk.{walk_wrong, part_wrong}
use Rattle.rt_reader.specs.Events.{event_seen, event_add, event_blank, event_walked, event_value, stop_seen, stop_add, stop_blank}
use Rattle.rt_reader.specs.Trips.{stop_walked, descriptor_seen, descriptor_add, descriptor_blank, descriptor_walked, descriptor_value, trip_seen, trip_add, trip_blank}
use Rattle.rt_reader.specs.Feeds.{trip_walked, trip_value, entity_seen, entity_add, entity_blank, entity_walked, header_seen, header_add, header_blank, header_walked, header_value, feed_seen, feed_add, feed_blank}
use Rattle.rt_reader.proofs.Lists.{all_snoc, some_keeps}

-- the state of a walk agrees with the fields before it
record Agrees {X : Type 0} (walked looked : ℕ → Reading) (seen : X → ℕ → Bool) (add : X → Field → X) (body : List ℕ) (R : X → List Field → Type 0) : Type 0 where
  pub step : (x : X) (before : List Field) → R x before → (n at : ℕ) (v : FieldValue) → wrong_value (walked n) body (seen x n) at v ≡ wrong_value (looked n) body (some_in (all (part_in n) before)) at v
  pub keeps : (x : X) (before : List Field) (f : Field) → R x before → R (add x f) (before ++ f ∷ [])

walk_is_first : {X : Type 0} (walked looked : ℕ → Reading) (seen : X → ℕ → Bool) (add : X → Field → X) (body : List ℕ) (R : X → List Field → Type 0) → Agrees walked looked seen add body R
    → (fs : List Field) (x : X) (before : List Field) → R x before → walk_wrong walked seen add body x fs ≡ first_wrong looked body before fs
unfolding walk_wrong first_wrong
walk_is_first walked looked seen add body R a [] x before r = refl
walk_is_first walked looked seen add body R a (f ∷ fs) x before r =
    ap (λ z. first z (walk_wrong walked seen add body (add x f) fs)) (a.step x before r f.number f.at f.value)
    ∙ ap (first (wrong_value (looked f.number) body (some_in (all (part_in f.number) before)) f.at f.value)) (walk_is_first walked looked seen add body R a fs (add x f) (before ++ f ∷ []) (a.keeps x before f r))

wrong_cut_same : (r : Result (List Field) WireFault) (F G : List Field → Option MessageFault) → ((fs : List Field) → F fs ≡ G fs) → wrong_cut r F ≡ wrong_cut r G
wrong_cut_same (Ok fs) F G h = h fs
wrong_cut_same (Err w) F G h = refl

part_is_first : {X : Type 0} (walked looked : ℕ → Reading) (seen : X → ℕ → Bool) (add : List ℕ → X → Field → X) (blank : X) (body : List ℕ) (p : Part) (R : X → List Field → Type 0)
    → Agrees walked looked seen (add body) body R → R blank [] → part_wrong walked seen add blank body p ≡ wrong_part looked body p
unfolding part_wrong wrong_part
part_is_first walked looked seen add blank body p R a r = wrong_cut_same _ _ _ (λ fs. walk_is_first walked looked seen (add body) body R a fs blank [] r)

one_same : (i j : List ℕ → Part → Option MessageFault) → ((body : List ℕ) (p : Part) → i body p ≡ j body p) → (body : List ℕ) (again : Bool) (at : ℕ) (v : FieldValue) → wrong_one i body again at v ≡ wrong_one j body again at v
one_same i j h body again at (value.Varint n) = refl
one_same i j h body again at (value.Eight n) = refl
one_same i j h body true at (value.Bytes from to) = refl
one_same i j h body false at (value.Bytes from to) = h body (record { from = from; to = to })
one_same i j h body again at (value.Four n) = refl

many_same : (i j : List ℕ → Part → Option MessageFault) → ((body : List ℕ) (p : Part) → i body p ≡ j body p) → (body : List ℕ) (at : ℕ) (v : FieldValue) → wrong_many i body at v ≡ wrong_many j body at v
many_same i j h body at (value.Varint n) = refl
many_same i j h body at (value.Eight n) = refl
many_same i j h body at (value.Bytes from to) = h body (record { from = from; to = to })
many_same i j h body at (value.Four n) = refl

-- two fields that are read alike, without a message in them
two_scalars : (b c s t : Bool) (body : List ℕ) (at : ℕ) (v : FieldValue) → wrong_value (cond b number (cond c number skipped)) body s at v ≡ wrong_value (cond b number (cond c number skipped)) body t at v
two_scalars true c s t body at v = refl
two_scalars false true s t body at v = refl
two_scalars false false s t body at v = refl

five_scalars : (a b c d e s t : Bool) (body : List ℕ) (at : ℕ) (v : FieldValue)
    → wrong_value (cond a words (cond b words (cond c words (cond d number (cond e words skipped))))) body s at v ≡ wrong_value (cond a words (cond b words (cond c words (cond d number (cond e words skipped))))) body t at v
five_scalars true b c d e s t body at v = refl
five_scalars false true c d e s t body at v = refl
five_scalars false false true d e s t body at v = refl
five_scalars false false false true e s t body at v = refl
five_scalars false false false false true s t body at v = refl
five_scalars false false false false false s t body at v = refl

pub event_is_first : (body : List ℕ) (p : Part) → event_walked body p ≡ event_wrong body p
event_is_first body p = part_is_first event_table event_table event_seen event_add event_blank body p (λ x before. Unit {0}) (record {
  step = λ x before r n at v. two_scalars (eqb n 1) (eqb n 2) false (some_in (all (part_in n) before)) body at v;
  keeps = λ x before f r. tt;
}) tt

pub header_is_first : (body : List ℕ) (p : Part) → header_walked body p ≡ header_wrong body p
header_is_first body p = part_is_first header_table header_table header_seen header_add header_blank body p (λ x before. Unit {0}) (record {
  step = λ x before r n at v. two_scalars (eqb n 2) (eqb n 3) false (some_in (all (part_in n) before)) body at v;
  keeps = λ x before f r. tt;
}) tt

pub descriptor_is_first : (body : List ℕ) (p : Part) → descriptor_walked body p ≡ descriptor_wrong body p
descriptor_is_first body p = part_is_first descriptor_table descriptor_table descriptor_seen descriptor_add descriptor_blank body p (λ x before. Unit {0}) (record {
  step = λ x before r n at v. five_scalars (eqb n 1) (eqb n 2) (eqb n 3) (eqb n 4) (eqb n 5) false (some_in (all (part_in n) before)) body at v;
  keeps = λ x before f r. tt;
}) tt

stop_fields : (i j : List ℕ → Part → Option MessageFault) → ((body : List ℕ) (p : Part) → i body p ≡ j body p) → (a b c d e s t u : Bool) (body : List ℕ) (at : ℕ) (v : FieldValue)
    → (b ≡ true → s ≡ u) → (c ≡ true → t ≡ u)
    → wrong_value (cond a number (cond b (one i) (cond c (one i) (cond d words (cond e number skipped))))) body (cond b s (cond c t false)) at v
    ≡ wrong_value (cond a number (cond b (one j) (cond c (one j) (cond d words (cond e number skipped))))) body u at v
stop_fields i j h true b c d e s t u body at v p q = refl
stop_fields i j h false true c d e s t u body at v p q = ap (λ z. wrong_one i body z at v) (p refl) ∙ one_same i j h body u at v
stop_fields i j h false false true d e s t u body at v p q = ap (λ z. wrong_one i body z at v) (q refl) ∙ one_same i j h body u at v
stop_fields i j h false false false true e s t u body at v p q = refl
stop_fields i j h false false false false true s t u body at v p q = refl
stop_fields i j h false false false false false s t u body at v p q = refl

-- that a part of this number was seen, said of a number that is the same
seen_at : (n k : ℕ) (o : Bool) (before : List Field) → o ≡ some_in (all (part_in k) before) → eqb n k ≡ true → o ≡ some_in (all (part_in n) before)
seen_at n k o before h e = rw (eqb-true n k e) h

-- what was seen stays so with a field more
seen_more : {X : Type 0} (k : ℕ) (o : Option X) (before : List Field) (f : Field) (g : Part → X) → is_some o ≡ some_in (all (part_in k) before) → is_some (later o (option_map g (part_in k f))) ≡ some_in (all (part_in k) (before ++ f ∷ []))
seen_more k o before f g h = rw (all_snoc (part_in k) before f) (some_keeps o (all (part_in k) before) (part_in k f) g h)

pub stop_is_first : (body : List ℕ) (p : Part) → stop_walked body p ≡ stop_wrong body p
stop_is_first body p = part_is_first (stop_table event_walked) (stop_table event_wrong) stop_seen stop_add stop_blank body p (λ u before. (is_some u.arrival ≡ some_in (all (part_in 2) before)) × (is_some u.departure ≡ some_in (all (part_in 3) before))) (record {
  step = λ u before r n at v. stop_fields event_walked event_wrong event_is_first (eqb n 1) (eqb n 2) (eqb n 3) (eqb n 4) (eqb n 5) (is_some u.arrival) (is_some u.departure) (some_in (all (part_in n) before)) body at v (seen_at n 2 _ before r.0) (seen_at n 3 _ before r.1);
  keeps = λ u before f r. (seen_more 2 u.arrival before f (event_value body) r.0, seen_more 3 u.departure before f (event_value body) r.1);
}) (refl, refl)

one_and_many : (i j k l : List ℕ → Part → Option MessageFault) → ((body : List ℕ) (p : Part) → i body p ≡ j body p) → ((body : List ℕ) (p : Part) → k body p ≡ l body p) → (a b s u : Bool) (body : List ℕ) (at : ℕ) (v : FieldValue)
    → (a ≡ true → s ≡ u)
    → wrong_value (cond a (one i) (cond b (many k) skipped)) body (cond a s false) at v ≡ wrong_value (cond a (one j) (cond b (many l) skipped)) body u at v
one_and_many i j k l h m true b s u body at v p = ap (λ z. wrong_one i body z at v) (p refl) ∙ one_same i j h body u at v
one_and_many i j k l h m false true s u body at v p = many_same k l m body at v
one_and_many i j k l h m false false s u body at v p = refl

pub trip_is_first : (body : List ℕ) (p : Part) → trip_walked body p ≡ trip_wrong body p
trip_is_first body p = part_is_first (trip_table descriptor_walked stop_walked) (trip_table descriptor_wrong stop_wrong) trip_seen trip_add trip_blank body p (λ t before. is_some t.trip ≡ some_in (all (part_in 1) before)) (record {
  step = λ t before r n at v. one_and_many descriptor_walked descriptor_wrong stop_walked stop_wrong descriptor_is_first stop_is_first (eqb n 1) (eqb n 2) (is_some t.trip) (some_in (all (part_in n) before)) body at v (seen_at n 1 _ before r);
  keeps = λ t before f r. seen_more 1 t.trip before f (descriptor_value body) r;
}) refl

scalar_and_one : (i j : List ℕ → Part → Option MessageFault) → ((body : List ℕ) (p : Part) → i body p ≡ j body p) → (a b s u : Bool) (body : List ℕ) (at : ℕ) (v : FieldValue)
    → (b ≡ true → s ≡ u)
    → wrong_value (cond a number (cond b (one i) skipped)) body (cond b s false) at v ≡ wrong_value (cond a number (cond b (one j) skipped)) body u at v
scalar_and_one i j h true b s u body at v p = refl
scalar_and_one i j h false true s u body at v p = ap (λ z. wrong_one i body z at v) (p refl) ∙ one_same i j h body u at v
scalar_and_one i j h false false s u body at v p = refl

pub entity_is_first : (body : List ℕ) (p : Part) → entity_walked body p ≡ entity_wrong body p
entity_is_first body p = part_is_first (entity_table trip_walked) (entity_table trip_wrong) entity_seen entity_add entity_blank body p (λ e before. is_some e.update ≡ some_in (all (part_in 3) before)) (record {
  step = λ e before r n at v. scalar_and_one trip_walked trip_wrong trip_is_first (eqb n 2) (eqb n 3) (is_some e.update) (some_in (all (part_in n) before)) body at v (seen_at n 3 _ before r);
  keeps = λ e before f r. seen_more 3 e.update before f (trip_value body) r;
}) refl

pub feed_is_first : (body : List ℕ) (p : Part) → part_wrong (feed_table header_walked entity_walked) feed_seen feed_add feed_blank body p ≡ feed_wrong body p
feed_is_first body p = part_is_first (feed_table header_walked entity_walked) (feed_table header_wrong entity_wrong) feed_seen feed_add feed_blank body p (λ m before. is_some m.header ≡ some_in (all (part_in 1) before)) (record {
  step = λ m before r n at v. one_and_many header_walked header_wrong entity_walked entity_wrong header_is_first entity_is_first (eqb n 1) (eqb n 2) (is_some m.header) (some_in (all (part_in n) before)) body at v (seen_at n 1 _ before r);
  keeps = λ m before f r. seen_more 1 m.header before f (header_value body) r;
}) refl
