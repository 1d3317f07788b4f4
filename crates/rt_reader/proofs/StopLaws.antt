-- For updates of stops and trips: bytes with no fault spell what is read of them, and bytes that spell a value have no
-- fault and are read as it.
use Rattle.std.proofs.Common.{◌≡◌, ℕ, ◌≤◌, Bool, true, false, cond, eqb, List, [], length, map, Option, None, refl, sym, ap, subst, ◌∙◌}
use Rattle.std.specs.Prelude.{option_map, unwrap_or}
use Rattle.std.specs.List.{AllByRecursion}
use Rattle.otp_model.specs.declared.message.StopUpdate.{StopUpdate}
use Rattle.pb_wire.specs.declared.field.Field.{Field}
use Rattle.rt_reader.specs.declared.fault.MessageFault.{MessageFault}
use Rattle.rt_reader.specs.declared.trip.Descriptor.{Descriptor}
use Rattle.rt_reader.specs.Fields.{Part, skipped, number, words, one, many, bytes_in, number_in, part_in}
use Rattle.rt_reader.specs.Tables.{all, last_in, last, stop_table, descriptor_table, event_wrong, stop_wrong, descriptor_wrong}
use Rattle.rt_reader.specs.Spelling.{IsOnce, SpellsEvent, SpellsStop, SpellsDescriptor}
use Rattle.rt_reader.specs.Walk.{walk_value}
use Rattle.rt_reader.specs.Events.{event_value, stop_add, stop_blank}
use Rattle.rt_reader.specs.Trips.{words_in, stop_value, descriptor_add, descriptor_blank, descriptor_value}
use Rattle.std.proofs.lemmas.Bool.{eqb-true}
use Rattle.rt_reader.proofs.Lists.{all_map, IsRead, once_only}
use Rattle.rt_reader.proofs.WalkLoop.{part_value_cut}
use Rattle.rt_reader.proofs.FirstLaws.{owns, one_found, none_from, part_none, part_right}
use Rattle.rt_reader.proofs.SlotLaws.{slot_last, slot_or}
use Rattle.rt_reader.proofs.KindLaws.{CutLaw, event_found, event_only}

-- a slot of an embedded message, by the parts that spell it
pub parts_last : {X : Type 0} (h : Part → X) (n : ℕ) (fs : List Field) → last (λ f. option_map h (part_in n f)) fs ≡ last_in (map h (all (part_in n) fs))
parts_last h n fs = ap last_in (all_map h (part_in n) fs)

-- ---- StopTimeUpdate

record StopSays (body : List ℕ) (fs : List Field) (u : StopUpdate) : Type 0 where
  pub seq : u.seq ≡ last (number_in 1) fs
  pub arrival : u.arrival ≡ last (λ f. option_map (event_value body) (part_in 2 f)) fs
  pub departure : u.departure ≡ last (λ f. option_map (event_value body) (part_in 3 f)) fs
  pub stop_id : u.stop_id ≡ last (words_in body 4) fs
  pub relation : u.relation ≡ unwrap_or (last (number_in 5) fs) 0

stop_says : (body : List ℕ) (fs : List Field) → StopSays body fs (walk_value (stop_add body) stop_blank fs)
stop_says body fs = record {
  seq = slot_last (λ u. u.seq) (stop_add body) stop_blank (number_in 1) (λ x f. refl) refl fs;
  arrival = slot_last (λ u. u.arrival) (stop_add body) stop_blank (λ f. option_map (event_value body) (part_in 2 f)) (λ x f. refl) refl fs;
  departure = slot_last (λ u. u.departure) (stop_add body) stop_blank (λ f. option_map (event_value body) (part_in 3 f)) (λ x f. refl) refl fs;
  stop_id = slot_last (λ u. u.stop_id) (stop_add body) stop_blank (words_in body 4) (λ x f. refl) refl fs;
  relation = slot_or (λ u. u.relation) (stop_add body) (number_in 5) (λ x f. refl) fs stop_blank;
}

stop_same : (body : List ℕ) (fs : List Field) (a b : StopUpdate) → StopSays body fs a → StopSays body fs b → a ≡ b
stop_same body fs a b p q = λ i. record {
  seq = (p.seq ∙ sym q.seq) i;
  stop_id = (p.stop_id ∙ sym q.stop_id) i;
  relation = (p.relation ∙ sym q.relation) i;
  arrival = (p.arrival ∙ sym q.arrival) i;
  departure = (p.departure ∙ sym q.departure) i;
}

pub stop_found : CutLaw → (body : List ℕ) (p : Part) → stop_wrong body p ≡ None → SpellsStop body p (stop_value body p)
stop_found law body p h =
    let table = stop_table event_wrong in
    let s = part_none table body p h in
    let fs = s.0 in
    let says = stop_says body fs in
    let found = event_found law body in
    subst (SpellsStop body p) (sym (part_value_cut stop_add stop_blank body p fs s.1)) (record {
      fields = fs;
      spelt = (law p.from (bytes_in body p) fs).0 s.1;
      own = owns table body [] fs s.2;
      seq = says.seq;
      arrival = subst (IsOnce (SpellsEvent body) (all (part_in 2) fs)) (sym says.arrival) (one_found table 2 event_wrong body fs (SpellsEvent body) (event_value body) refl s.2 found);
      departure = subst (IsOnce (SpellsEvent body) (all (part_in 3) fs)) (sym says.departure) (one_found table 3 event_wrong body fs (SpellsEvent body) (event_value body) refl s.2 found);
      stop_id = says.stop_id;
      relation = says.relation;
    })

-- what is known of the parts of this number
abbrev pub Fine : (List ℕ → Part → Option MessageFault) → List ℕ → List Part → Type 0
Fine inside body ps = AllByRecursion (λ p. inside body p ≡ None) ps

abbrev pub FineOnce : (List ℕ → Part → Option MessageFault) → List ℕ → List Part → Type 0
FineOnce inside body ps = Fine inside body ps × (length ps ≤ 1)

-- a message that stands at most once is the one of the table
pub fine_one : (j i : List ℕ → Part → Option MessageFault) (body : List ℕ) (ps : List Part) → one j ≡ one i → FineOnce j body ps → FineOnce i body ps
fine_one j i body ps e h = subst (λ k. FineOnce k body ps) (inner j i e) h
  where
    inner : (j i : List ℕ → Part → Option MessageFault) → one j ≡ one i → j ≡ i
    inner j i e = cc

pub fine_many : (j i : List ℕ → Part → Option MessageFault) (body : List ℕ) (ps : List Part) → many j ≡ many i → Fine j body ps → Fine i body ps
fine_many j i body ps e h = subst (λ k. Fine k body ps) (inner j i e) h
  where
    inner : (j i : List ℕ → Part → Option MessageFault) → many j ≡ many i → j ≡ i
    inner j i e = cc

stop_ones : (a b c d e : Bool) (j i : List ℕ → Part → Option MessageFault) (body : List ℕ) (ps : List Part) → (b ≡ true → FineOnce j body ps) → (c ≡ true → FineOnce j body ps)
    → cond a number (cond b (one j) (cond c (one j) (cond d words (cond e number skipped)))) ≡ one i → FineOnce i body ps
stop_ones true b c d e j i body ps p q t = absurd cc
stop_ones false true c d e j i body ps p q t = fine_one j i body ps t (p refl)
stop_ones false false true d e j i body ps p q t = fine_one j i body ps t (q refl)
stop_ones false false false true e j i body ps p q t = absurd cc
stop_ones false false false false true j i body ps p q t = absurd cc
stop_ones false false false false false j i body ps p q t = absurd cc

stop_manies : (a b c d e : Bool) (j i : List ℕ → Part → Option MessageFault) → cond a number (cond b (one j) (cond c (one j) (cond d words (cond e number skipped)))) ≡ many i → ⊥
stop_manies true b c d e j i t = cc
stop_manies false true c d e j i t = cc
stop_manies false false true d e j i t = cc
stop_manies false false false true e j i t = cc
stop_manies false false false false true j i t = cc
stop_manies false false false false false j i t = cc

-- said of a number that is the same
pub at_number : (n k : ℕ) (P : List Part → Type 0) (fs : List Field) → P (all (part_in k) fs) → eqb n k ≡ true → P (all (part_in n) fs)
at_number n k P fs h e = subst (λ z. P (all (part_in z) fs)) (sym (eqb-true n k e)) h

pub stop_only : CutLaw → (body : List ℕ) → IsRead (SpellsStop body) (λ p. stop_wrong body p ≡ None) (stop_value body)
stop_only law body =
    let table = stop_table event_wrong in
    let inner = event_only law body in
    record {
      right = λ p u k.
          let fs = k.fields in
          let a = once_only (SpellsEvent body) (λ q. event_wrong body q ≡ None) (event_value body) (all (part_in 2) fs) u.arrival inner k.arrival in
          let d = once_only (SpellsEvent body) (λ q. event_wrong body q ≡ None) (event_value body) (all (part_in 3) fs) u.departure inner k.departure in
          part_right table body p fs ((law p.from (bytes_in body p) fs).1 k.spelt) (none_from table body fs [] k.own (record {
            ones = λ n i t. stop_ones (eqb n 1) (eqb n 2) (eqb n 3) (eqb n 4) (eqb n 5) event_wrong i body (all (part_in n) fs)
                (at_number n 2 (FineOnce event_wrong body) fs (a.1, a.0)) (at_number n 3 (FineOnce event_wrong body) fs (d.1, d.0)) t;
            manies = λ n i t. absurd (stop_manies (eqb n 1) (eqb n 2) (eqb n 3) (eqb n 4) (eqb n 5) event_wrong i t);
          }));
      same = λ p u k.
          let fs = k.fields in
          let a = once_only (SpellsEvent body) (λ q. event_wrong body q ≡ None) (event_value body) (all (part_in 2) fs) u.arrival inner k.arrival in
          let d = once_only (SpellsEvent body) (λ q. event_wrong body q ≡ None) (event_value body) (all (part_in 3) fs) u.departure inner k.departure in
          let says : StopSays body fs u = record { seq = k.seq; arrival = a.2 ∙ sym (parts_last (event_value body) 2 fs); departure = d.2 ∙ sym (parts_last (event_value body) 3 fs); stop_id = k.stop_id; relation = k.relation } in
          stop_same body fs u (walk_value (stop_add body) stop_blank fs) says (stop_says body fs) ∙ sym (part_value_cut stop_add stop_blank body p fs ((law p.from (bytes_in body p) fs).1 k.spelt));
    }

-- ---- TripDescriptor

record DescriptorSays (body : List ℕ) (fs : List Field) (d : Descriptor) : Type 0 where
  pub trip_id : d.trip_id ≡ last (words_in body 1) fs
  pub start_time : d.start_time ≡ last (words_in body 2) fs
  pub start_date : d.start_date ≡ last (words_in body 3) fs
  pub relation : d.relation ≡ unwrap_or (last (number_in 4) fs) 0
  pub route_id : d.route_id ≡ last (words_in body 5) fs

descriptor_says : (body : List ℕ) (fs : List Field) → DescriptorSays body fs (walk_value (descriptor_add body) descriptor_blank fs)
descriptor_says body fs = record {
  trip_id = slot_last (λ d. d.trip_id) (descriptor_add body) descriptor_blank (words_in body 1) (λ x f. refl) refl fs;
  start_time = slot_last (λ d. d.start_time) (descriptor_add body) descriptor_blank (words_in body 2) (λ x f. refl) refl fs;
  start_date = slot_last (λ d. d.start_date) (descriptor_add body) descriptor_blank (words_in body 3) (λ x f. refl) refl fs;
  relation = slot_or (λ d. d.relation) (descriptor_add body) (number_in 4) (λ x f. refl) fs descriptor_blank;
  route_id = slot_last (λ d. d.route_id) (descriptor_add body) descriptor_blank (words_in body 5) (λ x f. refl) refl fs;
}

descriptor_same : (body : List ℕ) (fs : List Field) (a b : Descriptor) → DescriptorSays body fs a → DescriptorSays body fs b → a ≡ b
descriptor_same body fs a b p q = λ i. record {
  trip_id = (p.trip_id ∙ sym q.trip_id) i;
  start_time = (p.start_time ∙ sym q.start_time) i;
  start_date = (p.start_date ∙ sym q.start_date) i;
  relation = (p.relation ∙ sym q.relation) i;
  route_id = (p.route_id ∙ sym q.route_id) i;
}

pub descriptor_found : CutLaw → (body : List ℕ) (p : Part) → descriptor_wrong body p ≡ None → SpellsDescriptor body p (descriptor_value body p)
descriptor_found law body p h =
    let s = part_none descriptor_table body p h in
    let fs = s.0 in
    let says = descriptor_says body fs in
    subst (SpellsDescriptor body p) (sym (part_value_cut descriptor_add descriptor_blank body p fs s.1)) (record {
      fields = fs;
      spelt = (law p.from (bytes_in body p) fs).0 s.1;
      own = owns descriptor_table body [] fs s.2;
      trip_id = says.trip_id;
      start_time = says.start_time;
      start_date = says.start_date;
      relation = says.relation;
      route_id = says.route_id;
    })

five_ones : (a b c d e : Bool) (i : List ℕ → Part → Option MessageFault) → cond a words (cond b words (cond c words (cond d number (cond e words skipped)))) ≡ one i → ⊥
five_ones true b c d e i t = cc
five_ones false true c d e i t = cc
five_ones false false true d e i t = cc
five_ones false false false true e i t = cc
five_ones false false false false true i t = cc
five_ones false false false false false i t = cc

five_manies : (a b c d e : Bool) (i : List ℕ → Part → Option MessageFault) → cond a words (cond b words (cond c words (cond d number (cond e words skipped)))) ≡ many i → ⊥
five_manies true b c d e i t = cc
five_manies false true c d e i t = cc
five_manies false false true d e i t = cc
five_manies false false false true e i t = cc
five_manies false false false false true i t = cc
five_manies false false false false false i t = cc

pub descriptor_only : CutLaw → (body : List ℕ) → IsRead (SpellsDescriptor body) (λ p. descriptor_wrong body p ≡ None) (descriptor_value body)
descriptor_only law body = record {
  right = λ p d k. part_right descriptor_table body p k.fields ((law p.from (bytes_in body p) k.fields).1 k.spelt) (none_from descriptor_table body k.fields [] k.own (record {
    ones = λ n i t. absurd (five_ones (eqb n 1) (eqb n 2) (eqb n 3) (eqb n 4) (eqb n 5) i t);
    manies = λ n i t. absurd (five_manies (eqb n 1) (eqb n 2) (eqb n 3) (eqb n 4) (eqb n 5) i t);
  }));
  same = λ p d k.
      let says : DescriptorSays body k.fields d = record { trip_id = k.trip_id; start_time = k.start_time; start_date = k.start_date; relation = k.relation; route_id = k.route_id } in
      descriptor_same body k.fields d (walk_value (descriptor_add body) descriptor_blank k.fields) says (descriptor_says body k.fields) ∙ sym (part_value_cut descriptor_add descriptor_blank body p k.fields ((law p.from (bytes_in body p) k.fields).1 k.spelt));
}
