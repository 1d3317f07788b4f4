-- Reading field by field, as a loop does.
use Rattle.std.proofs.Common.{◌≡◌, ℕ, ◌+◌, ◌≤◌, ◌<◌, Bool, List, ◌∷◌, length, get_or, drop, Option, Some, None, Ok, Err, refl, sym, ap, ◌∙◌, add-one, drop-cons, arith}
use Rattle.std.proofs.lemmas.List.{drop_all}
use Rattle.pb_wire.specs.declared.field.Field.{Field}
use Rattle.pb_wire.specs.declared.field.FieldValue.{FieldValue}
use Rattle.pb_wire.specs.declared.field.FieldValue.TheVariants as value
use Rattle.pb_wire.specs.declared.field.WireFault.{WireFault}
use Rattle.pb_wire.specs.declared.field.WireFault.TheVariants as wire
use Rattle.pb_wire.specs.Wire.{LiesIn, LiesWithin}
use Rattle.pb_wire.specs.Cutting.{cut}
use Rattle.pb_wire.specs.Cutting.{told_of as wire_told_of}
use Rattle.rt_reader.specs.declared.fault.MessageFault.{MessageFault}
use Rattle.rt_reader.specs.declared.fault.MessageFault.TheVariants as fault
use Rattle.otp_base.specs.Answers.{OrMemory}
use Rattle.rt_reader.specs.Faults.{fault_of, told_of}
use Rattle.rt_reader.specs.Fields.{Part, Reading, bytes_in}
use Rattle.rt_reader.specs.Walk.{wrong_field, walk_wrong, walk_value, part_wrong, part_value}

pub or_memory_map : (P Q : MessageFault → Type 0) (e : MessageFault) → ((f : MessageFault) → P f → Q f) → OrMemory told_of P e → OrMemory told_of Q e
or_memory_map P Q (fault.Wire w) f h = f _ h
or_memory_map P Q fault.NoHeader f h = f _ h
or_memory_map P Q fault.Differential f h = f _ h
or_memory_map P Q (fault.NotText a) f h = f _ h
or_memory_map P Q (fault.Repeated a) f h = f _ h
or_memory_map P Q (fault.WrongType a) f h = f _ h
or_memory_map P Q fault.Memory f h = tt

drop_at_index : (fs : List Field) (i : ℕ) (d : Field) → i < length fs → drop i fs ≡ get_or fs i d ∷ drop (i + 1) fs
drop_at_index fs i d lt = rw add-one (drop-cons fs i d lt)

wrong_goes_on : {X : Type 0} (table : ℕ → Reading) (seen : X → ℕ → Bool) (add : X → Field → X) (body : List ℕ) (x : X) (f : Field) (rest : List Field)
    → wrong_field table seen body x f ≡ None → walk_wrong table seen add body x (f ∷ rest) ≡ walk_wrong table seen add body (add x f) rest
unfolding walk_wrong
wrong_goes_on table seen add body x f rest h = rw h refl

wrong_ends : {X : Type 0} (table : ℕ → Reading) (seen : X → ℕ → Bool) (add : X → Field → X) (body : List ℕ) (x : X) (f : Field) (rest : List Field) (e : MessageFault)
    → wrong_field table seen body x f ≡ Some e → walk_wrong table seen add body x (f ∷ rest) ≡ Some e
unfolding walk_wrong
wrong_ends table seen add body x f rest e h = rw h refl

value_goes_on : {X : Type 0} (add : X → Field → X) (x : X) (f : Field) (rest : List Field) → walk_value add x (f ∷ rest) ≡ walk_value add (add x f) rest
unfolding walk_value
value_goes_on add x f rest = refl

pub loop_wrong : {X : Type 0} (table : ℕ → Reading) (seen : X → ℕ → Bool) (add : X → Field → X) (body : List ℕ) (x y : X) (fs : List Field) (i : ℕ) (d : Field) (total : Option MessageFault)
    → i < length fs → wrong_field table seen body x (get_or fs i d) ≡ None → y ≡ add x (get_or fs i d)
    → walk_wrong table seen add body x (drop i fs) ≡ total → walk_wrong table seen add body y (drop (i + 1) fs) ≡ total
loop_wrong table seen add body x y fs i d total lt h e so_far =
    ap (λ z. walk_wrong table seen add body z (drop (i + 1) fs)) e ∙ sym (wrong_goes_on table seen add body x (get_or fs i d) (drop (i + 1) fs) h) ∙ sym (ap (walk_wrong table seen add body x) (drop_at_index fs i d lt)) ∙ so_far

pub loop_value : {X : Type 0} (add : X → Field → X) (x y : X) (fs : List Field) (i : ℕ) (d : Field) (total : X)
    → i < length fs → y ≡ add x (get_or fs i d) → walk_value add x (drop i fs) ≡ total → walk_value add y (drop (i + 1) fs) ≡ total
loop_value add x y fs i d total lt e so_far =
    ap (λ z. walk_value add z (drop (i + 1) fs)) e ∙ sym (value_goes_on add x (get_or fs i d) (drop (i + 1) fs)) ∙ sym (ap (walk_value add x) (drop_at_index fs i d lt)) ∙ so_far

pub loop_ends : {X : Type 0} (table : ℕ → Reading) (seen : X → ℕ → Bool) (add : X → Field → X) (body : List ℕ) (x : X) (fs : List Field) (i : ℕ) (d : Field) (total whole : Option MessageFault) (e : MessageFault)
    → i < length fs → OrMemory told_of (λ f. wrong_field table seen body x (get_or fs i d) ≡ Some f) e
    → walk_wrong table seen add body x (drop i fs) ≡ total → whole ≡ total → OrMemory told_of (λ f. whole ≡ Some f) e
loop_ends table seen add body x fs i d total whole e lt h so_far w =
    or_memory_map (λ f. wrong_field table seen body x (get_or fs i d) ≡ Some f) (λ f. whole ≡ Some f) e (λ f k.
    w ∙ sym so_far ∙ ap (walk_wrong table seen add body x) (drop_at_index fs i d lt) ∙ wrong_ends table seen add body x (get_or fs i d) (drop (i + 1) fs) f k) h

pub loop_done : {X : Type 0} (table : ℕ → Reading) (seen : X → ℕ → Bool) (add : X → Field → X) (body : List ℕ) (x : X) (fs : List Field) (i : ℕ) (total : Option MessageFault)
    → length fs ≤ i → walk_wrong table seen add body x (drop i fs) ≡ total → total ≡ None
unfolding walk_wrong
loop_done table seen add body x fs i total le so_far = sym so_far ∙ ap (walk_wrong table seen add body x) (drop_all i fs le)

pub loop_done_value : {X : Type 0} (add : X → Field → X) (x : X) (fs : List Field) (i : ℕ) (total : X) → length fs ≤ i → walk_value add x (drop i fs) ≡ total → total ≡ x
unfolding walk_value
loop_done_value add x fs i total le so_far = sym so_far ∙ ap (walk_value add x) (drop_all i fs le)

-- a part that was cut into these fields
pub part_wrong_cut : {X : Type 0} (table : ℕ → Reading) (seen : X → ℕ → Bool) (add : List ℕ → X → Field → X) (blank : X) (body : List ℕ) (p : Part) (fs : List Field)
    → cut p.from (bytes_in body p) ≡ Ok fs → part_wrong table seen add blank body p ≡ walk_wrong table seen (add body) body blank fs
unfolding part_wrong
part_wrong_cut table seen add blank body p fs h = rw h refl

pub part_value_cut : {X : Type 0} (add : List ℕ → X → Field → X) (blank : X) (body : List ℕ) (p : Part) (fs : List Field)
    → cut p.from (bytes_in body p) ≡ Ok fs → part_value add blank body p ≡ walk_value (add body) blank fs
unfolding part_value
part_value_cut add blank body p fs h = rw h refl

part_wrong_uncut : {X : Type 0} (table : ℕ → Reading) (seen : X → ℕ → Bool) (add : List ℕ → X → Field → X) (blank : X) (body : List ℕ) (p : Part) (w : WireFault)
    → cut p.from (bytes_in body p) ≡ Err w → part_wrong table seen add blank body p ≡ Some (fault_of w)
unfolding part_wrong
part_wrong_uncut table seen add blank body p w h = rw h refl

-- a part that was not cut
pub wire_fails : {X : Type 0} (table : ℕ → Reading) (seen : X → ℕ → Bool) (add : List ℕ → X → Field → X) (blank : X) (body : List ℕ) (p : Part) (w : WireFault)
    → OrMemory wire_told_of (λ f. cut p.from (bytes_in body p) ≡ Err f) w → OrMemory told_of (λ f. part_wrong table seen add blank body p ≡ Some f) (fault_of w)
wire_fails table seen add blank body p (wire.Cut a) h = part_wrong_uncut table seen add blank body p (wire.Cut a) h
wire_fails table seen add blank body p (wire.LongVarint a) h = part_wrong_uncut table seen add blank body p (wire.LongVarint a) h
wire_fails table seen add blank body p (wire.Group a) h = part_wrong_uncut table seen add blank body p (wire.Group a) h
wire_fails table seen add blank body p (wire.ZeroField a) h = part_wrong_uncut table seen add blank body p (wire.ZeroField a) h
wire_fails table seen add blank body p wire.Memory h = tt

lies_wider : (low high more : ℕ) (v : FieldValue) → high ≤ more → LiesIn low high v → LiesIn 0 more v
lies_wider low high more (value.Varint n) p h = tt
lies_wider low high more (value.Eight n) p h = tt
lies_wider low high more (value.Bytes from to) p h = (omega arith, h.1, let k = h.2 in omega arith)
lies_wider low high more (value.Four n) p h = tt

pub lies_in_body : (low high more : ℕ) (f : Field) → high ≤ more → LiesWithin low high f → LiesWithin 0 more f
lies_in_body low high more f p h = lies_wider low high more f.value p h
