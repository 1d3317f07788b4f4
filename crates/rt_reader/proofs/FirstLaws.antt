-- Fields have no fault exactly where each is right and each singular message stands at most once.
use Rattle.std.proofs.Common.{◌≡◌, ℕ, ◌≤◌, Bool, true, false, cond, eqb, List, [], ◌∷◌, ◌++◌, length, Option, Some, None, Result, Ok, Err, refl, sym, ap, subst, ◌∙◌, inl, inr, append_assoc, length-append, arith}
use Rattle.std.specs.Prelude.{option_map, option_to_list}
use Rattle.std.specs.List.{AllByRecursion}
use Rattle.std.specs.Str.{is_utf8}
use Rattle.std.proofs.lemmas.Bool.Decides.{eqb_tells}
use Rattle.pb_wire.specs.declared.field.Field.{Field}
use Rattle.pb_wire.specs.declared.field.FieldValue.{FieldValue}
use Rattle.pb_wire.specs.declared.field.FieldValue.TheVariants as value
use Rattle.pb_wire.specs.declared.field.WireFault.{WireFault}
use Rattle.pb_wire.specs.Cutting.{cut}
use Rattle.rt_reader.specs.declared.fault.MessageFault.{MessageFault}
use Rattle.rt_reader.specs.declared.fault.MessageFault.TheVariants as fault
use Rattle.rt_reader.specs.Faults.{first}
use Rattle.rt_reader.specs.Fields.{Part, Reading, skipped, number, words, one, many, bytes_in, part_of, part_in, wrong_value, wrong_one}
use Rattle.rt_reader.specs.Tables.{wrong_cut, first_wrong, wrong_part, all, some_in, last, last_in}
use Rattle.rt_reader.specs.Spelling.{IsOwn, Owns, IsOnce, IsEach}
use Rattle.rt_reader.proofs.Lists.{all_snoc, all_map, once_found, each_found, all_imply}

pub first_none : (a b : Option MessageFault) → first a b ≡ None → (a ≡ None) × (b ≡ None)
first_none None b h = (refl, h)
first_none (Some e) b h = absurd cc

cond_none : (b : Bool) (e : MessageFault) → cond b None (Some e) ≡ None → b ≡ true
cond_none true e h = refl
cond_none false e h = absurd cc

cond_some : (b : Bool) (e : MessageFault) (o : Option MessageFault) → cond b (Some e) o ≡ None → o ≡ None
cond_some true e o h = absurd cc
cond_some false e o h = h

own_of : (r : Reading) (body : List ℕ) (again : Bool) (at : ℕ) (v : FieldValue) → wrong_value r body again at v ≡ None → IsOwn r body v
own_of skipped body again at v h = tt
own_of number body again at (value.Varint n) h = tt
own_of number body again at (value.Eight n) h = absurd cc
own_of number body again at (value.Bytes from to) h = absurd cc
own_of number body again at (value.Four n) h = absurd cc
own_of words body again at (value.Varint n) h = absurd cc
own_of words body again at (value.Eight n) h = absurd cc
own_of words body again at (value.Bytes from to) h = cond_none (is_utf8 (bytes_in body (record { from = from; to = to }))) (fault.NotText at) h
own_of words body again at (value.Four n) h = absurd cc
own_of (one inside) body again at (value.Varint n) h = absurd cc
own_of (one inside) body again at (value.Eight n) h = absurd cc
own_of (one inside) body again at (value.Bytes from to) h = tt
own_of (one inside) body again at (value.Four n) h = absurd cc
own_of (many inside) body again at (value.Varint n) h = absurd cc
own_of (many inside) body again at (value.Eight n) h = absurd cc
own_of (many inside) body again at (value.Bytes from to) h = tt
own_of (many inside) body again at (value.Four n) h = absurd cc

pub owns : (table : ℕ → Reading) (body : List ℕ) (before fs : List Field) → first_wrong table body before fs ≡ None → Owns table body fs
unfolding first_wrong
owns table body before [] h = tt
owns table body before (f ∷ fs) h =
    let s = first_none _ (first_wrong table body (before ++ f ∷ []) fs) h in
    (own_of (table f.number) body _ f.at f.value s.0, owns table body (before ++ f ∷ []) fs s.1)

-- nothing is wrong inside, where there is a part
abbrev RightInside : (List ℕ → Part → Option MessageFault) → List ℕ → FieldValue → Type 0
RightInside inside body (value.Varint n) = Unit {0}
RightInside inside body (value.Eight n) = Unit {0}
RightInside inside body (value.Bytes from to) = inside body (record { from = from; to = to }) ≡ None
RightInside inside body (value.Four n) = Unit {0}

-- a message that is read so has nothing wrong inside
abbrev Tells : Reading → (List ℕ → Part → Option MessageFault) → List ℕ → Type 0
Tells r inside body = (again : Bool) (at : ℕ) (v : FieldValue) → wrong_value r body again at v ≡ None → RightInside inside body v

one_tells : (inside : List ℕ → Part → Option MessageFault) (body : List ℕ) → Tells (one inside) inside body
one_tells inside body again at (value.Varint n) h = tt
one_tells inside body again at (value.Eight n) h = tt
one_tells inside body again at (value.Bytes from to) h = cond_some again (fault.Repeated at) (inside body (record { from = from; to = to })) h
one_tells inside body again at (value.Four n) h = tt

many_tells : (inside : List ℕ → Part → Option MessageFault) (body : List ℕ) → Tells (many inside) inside body
many_tells inside body again at (value.Varint n) h = tt
many_tells inside body again at (value.Eight n) h = tt
many_tells inside body again at (value.Bytes from to) h = h
many_tells inside body again at (value.Four n) h = tt

head_right : (inside : List ℕ → Part → Option MessageFault) (body : List ℕ) (v : FieldValue) (rest : List Part) → RightInside inside body v → AllByRecursion (λ p. inside body p ≡ None) rest
    → AllByRecursion (λ p. inside body p ≡ None) (option_to_list (part_of v) ++ rest)
head_right inside body (value.Varint n) rest h k = k
head_right inside body (value.Eight n) rest h k = k
head_right inside body (value.Bytes from to) rest h k = (h, k)
head_right inside body (value.Four n) rest h k = k

parts_right : (table : ℕ → Reading) (n : ℕ) (inside : List ℕ → Part → Option MessageFault) (body : List ℕ) → Tells (table n) inside body → (before fs : List Field) → first_wrong table body before fs ≡ None
    → AllByRecursion (λ p. inside body p ≡ None) (all (part_in n) fs)
unfolding first_wrong
parts_right table n inside body t before [] h = tt
parts_right table n inside body t before (f ∷ fs) h =
    let s = first_none _ (first_wrong table body (before ++ f ∷ []) fs) h in
    let i = parts_right table n inside body t (before ++ f ∷ []) fs s.1 in
    elim (eqb_tells f.number n) [
      | inl e ↦
          let here = subst (λ k. wrong_value (table k) body (some_in (all (part_in f.number) before)) f.at f.value ≡ None) e.1 s.0 in
          rw e.0 (head_right inside body f.value (all (part_in n) fs) (t _ f.at f.value here) i)
      | inr e ↦ rw e.0 i
    ]

some_left : (xs ys : List Part) → some_in xs ≡ true → some_in (xs ++ ys) ≡ true
some_left [] ys h = absurd cc
some_left (x ∷ xs) ys h = refl

some_right : (xs : List Part) (p : Part) → some_in (xs ++ p ∷ []) ≡ true
some_right [] p = refl
some_right (x ∷ xs) p = refl

always_wrong : (inside : List ℕ → Part → Option MessageFault) (body : List ℕ) (at : ℕ) (v : FieldValue) → wrong_one inside body true at v ≡ None → ⊥
always_wrong inside body at (value.Varint n) h = cc
always_wrong inside body at (value.Eight n) h = cc
always_wrong inside body at (value.Bytes from to) h = cc
always_wrong inside body at (value.Four n) h = cc

-- after one no other
once_none : (table : ℕ → Reading) (n : ℕ) (inside : List ℕ → Part → Option MessageFault) (body : List ℕ) → table n ≡ one inside → (before fs : List Field) → some_in (all (part_in n) before) ≡ true
    → first_wrong table body before fs ≡ None → all (part_in n) fs ≡ []
unfolding first_wrong
once_none table n inside body t before [] seen h = refl
once_none table n inside body t before (f ∷ fs) seen h =
    let s = first_none _ (first_wrong table body (before ++ f ∷ []) fs) h in
    let more : some_in (all (part_in n) (before ++ f ∷ [])) ≡ true = rw (all_snoc (part_in n) before f) (some_left (all (part_in n) before) (option_to_list (part_in n f)) seen) in
    elim (eqb_tells f.number n) [
      | inl e ↦
          let here = subst (λ k. wrong_value (table k) body (some_in (all (part_in k) before)) f.at f.value ≡ None) e.1 s.0 in
          let there = subst (λ r. wrong_value r body (some_in (all (part_in n) before)) f.at f.value ≡ None) t here in
          absurd (always_wrong inside body f.at f.value (subst (λ b. wrong_one inside body b f.at f.value ≡ None) seen there))
      | inr e ↦ rw e.0 (once_none table n inside body t (before ++ f ∷ []) fs more s.1)
    ]

few_more : (o : Option Part) (xs : List Part) → length xs ≤ 1 → ((p : Part) → o ≡ Some p → xs ≡ []) → length (option_to_list o ++ xs) ≤ 1
few_more None xs few none = few
few_more (Some p) xs few none = let e = none p refl in omega (arith, ap length e)

pub once_few : (table : ℕ → Reading) (n : ℕ) (inside : List ℕ → Part → Option MessageFault) (body : List ℕ) → table n ≡ one inside → (before fs : List Field) → first_wrong table body before fs ≡ None → length (all (part_in n) fs) ≤ 1
unfolding first_wrong
once_few table n inside body t before [] h = omega arith
once_few table n inside body t before (f ∷ fs) h =
    let s = first_none _ (first_wrong table body (before ++ f ∷ []) fs) h in
    let seen = λ (p : Part) (e : part_in n f ≡ Some p). subst (λ o. some_in (all (part_in n) before ++ option_to_list o) ≡ true) (sym e) (some_right (all (part_in n) before) p) in
    few_more (part_in n f) (all (part_in n) fs) (once_few table n inside body t (before ++ f ∷ []) fs s.1)
    (λ p e. once_none table n inside body t (before ++ f ∷ []) fs (rw (all_snoc (part_in n) before f) (seen p e)) s.1)

pub one_found : {X : Type 0} (table : ℕ → Reading) (n : ℕ) (inside : List ℕ → Part → Option MessageFault) (body : List ℕ) (fs : List Field) (P : Part → X → Type 0) (h : Part → X) → table n ≡ one inside → first_wrong table body [] fs ≡ None
    → ((p : Part) → inside body p ≡ None → P p (h p)) → IsOnce P (all (part_in n) fs) (last (λ f. option_map h (part_in n f)) fs)
one_found table n inside body fs P h t k f =
    let tells : Tells (table n) inside body = subst (λ r. Tells r inside body) (sym t) (one_tells inside body) in
    let right = parts_right table n inside body tells [] fs k in
    subst (λ z. IsOnce P (all (part_in n) fs) (last_in z)) (sym (all_map h (part_in n) fs)) (once_found P h (all (part_in n) fs) (once_few table n inside body t [] fs k) (all_imply (λ p. inside body p ≡ None) (λ p. P p (h p)) (all (part_in n) fs) f right))

pub many_found : {X : Type 0} (table : ℕ → Reading) (n : ℕ) (inside : List ℕ → Part → Option MessageFault) (body : List ℕ) (fs : List Field) (P : Part → X → Type 0) (h : Part → X) → table n ≡ many inside → first_wrong table body [] fs ≡ None
    → ((p : Part) → inside body p ≡ None → P p (h p)) → IsEach P (all (part_in n) fs) (all (λ f. option_map h (part_in n f)) fs)
many_found table n inside body fs P h t k f =
    let tells : Tells (table n) inside body = subst (λ r. Tells r inside body) (sym t) (many_tells inside body) in
    let right = parts_right table n inside body tells [] fs k in
    subst (λ z. IsEach P (all (part_in n) fs) z) (sym (all_map h (part_in n) fs)) (each_found P h (all (part_in n) fs) (all_imply (λ p. inside body p ≡ None) (λ p. P p (h p)) (all (part_in n) fs) f right))

-- ---- the other way

-- the embedded messages are right, and the singular ones stand at most once, after those before
pub record Inner (table : ℕ → Reading) (body : List ℕ) (before fs : List Field) : Type 0 where
  pub ones : (n : ℕ) (inside : List ℕ → Part → Option MessageFault) → table n ≡ one inside → AllByRecursion (λ p. inside body p ≡ None) (all (part_in n) fs) × (length (all (part_in n) before ++ all (part_in n) fs) ≤ 1)
  pub manies : (n : ℕ) (inside : List ℕ → Part → Option MessageFault) → table n ≡ many inside → AllByRecursion (λ p. inside body p ≡ None) (all (part_in n) fs)

none_before : (bs : List Part) (p : Part) (xs : List Part) → length (bs ++ p ∷ xs) ≤ 1 → some_in bs ≡ false
none_before [] p xs h = refl
none_before (b ∷ bs) p xs h = absurd (omega (arith, length-append bs (p ∷ xs)))

right_here : (r : Reading) (body : List ℕ) (at : ℕ) (v : FieldValue) (bs xs : List Part) → IsOwn r body v
    → ((inside : List ℕ → Part → Option MessageFault) → r ≡ one inside → AllByRecursion (λ p. inside body p ≡ None) (option_to_list (part_of v) ++ xs) × (length (bs ++ (option_to_list (part_of v) ++ xs)) ≤ 1))
    → ((inside : List ℕ → Part → Option MessageFault) → r ≡ many inside → AllByRecursion (λ p. inside body p ≡ None) (option_to_list (part_of v) ++ xs))
    → wrong_value r body (some_in bs) at v ≡ None
right_here skipped body at v bs xs own ones manies = refl
right_here number body at (value.Varint n) bs xs own ones manies = refl
right_here number body at (value.Eight n) bs xs own ones manies = absurd own
right_here number body at (value.Bytes from to) bs xs own ones manies = absurd own
right_here number body at (value.Four n) bs xs own ones manies = absurd own
right_here words body at (value.Varint n) bs xs own ones manies = absurd own
right_here words body at (value.Eight n) bs xs own ones manies = absurd own
right_here words body at (value.Bytes from to) bs xs own ones manies = ap (λ b. cond b None (Some (fault.NotText at))) own
right_here words body at (value.Four n) bs xs own ones manies = absurd own
right_here (one inside) body at (value.Varint n) bs xs own ones manies = absurd own
right_here (one inside) body at (value.Eight n) bs xs own ones manies = absurd own
right_here (one inside) body at (value.Bytes from to) bs xs own ones manies =
    let h = ones inside refl in
    let p : Part = record { from = from; to = to } in
    ap (λ b. cond b (Some (fault.Repeated at)) (inside body p)) (none_before bs p xs h.1) ∙ h.0.0
right_here (one inside) body at (value.Four n) bs xs own ones manies = absurd own
right_here (many inside) body at (value.Varint n) bs xs own ones manies = absurd own
right_here (many inside) body at (value.Eight n) bs xs own ones manies = absurd own
right_here (many inside) body at (value.Bytes from to) bs xs own ones manies = (manies inside refl).0
right_here (many inside) body at (value.Four n) bs xs own ones manies = absurd own

all_tail : (P : Part → Type 0) (o : Option Part) (xs : List Part) → AllByRecursion P (option_to_list o ++ xs) → AllByRecursion P xs
all_tail P None xs h = h
all_tail P (Some p) xs h = h.1

eqb_self : (n : ℕ) → eqb n n ≡ true
eqb_self n = elim (eqb_tells n n) [ inl e ↦ e.0 | inr e ↦ absurd (e.1 refl) ]

own_part : (f : Field) → part_in f.number f ≡ part_of f.value
own_part f = ap (λ b. cond b (part_of f.value) None) (eqb_self f.number)

pub none_from : (table : ℕ → Reading) (body : List ℕ) (fs before : List Field) → Owns table body fs → Inner table body before fs → first_wrong table body before fs ≡ None
unfolding first_wrong
none_from table body [] before own r = refl
none_from table body (f ∷ fs) before own r =
    let n = f.number in
    let bs = all (part_in n) before in
    let xs = all (part_in n) fs in
    let here = right_here (table n) body f.at f.value bs xs own.0
    (λ inside t. subst (λ o. AllByRecursion (λ p. inside body p ≡ None) (option_to_list o ++ xs) × (length (bs ++ (option_to_list o ++ xs)) ≤ 1)) (own_part f) (r.ones n inside t))
    (λ inside t. subst (λ o. AllByRecursion (λ p. inside body p ≡ None) (option_to_list o ++ xs)) (own_part f) (r.manies n inside t)) in
    let rest = none_from table body fs (before ++ f ∷ []) own.1 (record {
      ones = λ k inside t. let h = r.ones k inside t in (
        all_tail (λ p. inside body p ≡ None) (part_in k f) (all (part_in k) fs) h.0,
        rw (all_snoc (part_in k) before f, append_assoc (all (part_in k) before) (option_to_list (part_in k f)) (all (part_in k) fs)) h.1,
      );
      manies = λ k inside t. all_tail (λ p. inside body p ≡ None) (part_in k f) (all (part_in k) fs) (r.manies k inside t);
    }) in
    ap (λ z. first z (first_wrong table body (before ++ f ∷ []) fs)) here ∙ rest

-- ---- of the bytes of a part

cut_none : (r : Result (List Field) WireFault) (F : List Field → Option MessageFault) → wrong_cut r F ≡ None → (fs : List Field) × (r ≡ Ok fs) × (F fs ≡ None)
cut_none (Ok fs) F h = (fs, refl, h)
cut_none (Err w) F h = absurd cc

pub part_none : (table : ℕ → Reading) (body : List ℕ) (p : Part) → wrong_part table body p ≡ None → (fs : List Field) × (cut p.from (bytes_in body p) ≡ Ok fs) × (first_wrong table body [] fs ≡ None)
unfolding wrong_part
part_none table body p h = cut_none (cut p.from (bytes_in body p)) (first_wrong table body []) h

pub part_right : (table : ℕ → Reading) (body : List ℕ) (p : Part) (fs : List Field) → cut p.from (bytes_in body p) ≡ Ok fs → first_wrong table body [] fs ≡ None → wrong_part table body p ≡ None
unfolding wrong_part
part_right table body p fs e h = ap (λ r. wrong_cut r (first_wrong table body [])) e ∙ h
