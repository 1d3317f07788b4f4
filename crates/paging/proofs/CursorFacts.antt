-- What the text of a cursor spells.
use Rattle.std.proofs.Common.{◌≡◌, ℕ, zero, suc, ◌+◌, ◌<◌, ◌^◌, Bool, true, false, List, [], ◌∷◌, ◌++◌, length, take, drop, get_or, Option, Some, None, FitsSigned, w64, to_z, of_z, ℤ, pos, negsuc, refl, sym, ◌∙◌, ap, subst, arith, append_assoc}
use Rattle.std.specs.Prelude.{nat_lt, decimal, codes, if◌then◌else◌}
use Rattle.std.specs.List.{before_first, after_first, position_or_len}
use Rattle.std.specs.Str.{bytes_eq}
use Rattle.std.specs.Str.Parse.{AllDigits}
use Rattle.std.proofs.lemmas.Bool.{eqb-true, lt-ltb, ltb-true, ne_eqb}
use Rattle.std.proofs.lemmas.Fmt.{decimal_is_IsNumeral}
use Rattle.std.proofs.lemmas.Int.{ints, to_z-of_z}
use Rattle.std.proofs.lemmas.List.{drop_at, get_or_append_left, get_or_at, length-append, length_push, take_at}
use Rattle.std.proofs.lemmas.List.Sums.{passes_at_first, position_or_len_is, split_at_first}
use Rattle.std.proofs.lemmas.Slice.Eq.{bytes_eq-Decides}
use Rattle.std.proofs.lemmas.Str.Parse.{digit_at}
use Rattle.otp_model.specs.declared.journey.Cursor.{Cursor}
use Rattle.otp_base.specs.Cut.{cut, is_byte}
use Rattle.otp_base.specs.Optionals.{◌>>=◌}
use Rattle.paging.specs.Text.{FitsText, FitsTime, IsCursorOf, cursor_of, cursor_text_of, number_then, numbers_in, numbers_text}
use Rattle.paging.proofs.NumberFacts.{plain_from, plain_is}

-- a step that gave something had something to go on
record Stepped {A B : Type 0} (x : Option A) (f : A → Option B) (b : B) : Type 0 where
  from : A
  was : x ≡ Some from
  gives : f from ≡ Some b

stepped : {A B : Type 0} (x : Option A) (f : A → Option B) (b : B) → (x >>= f) ≡ Some b → Stepped x f b
stepped None f b h = cc h
stepped (Some a) f b h = record { from = a; was = refl; gives = h }

step : {A B : Type 0} (x : Option A) (f : A → Option B) (a : A) (r : Option B) → x ≡ Some a → f a ≡ r → (x >>= f) ≡ r
step x f a r e h = ap (λ z. z >>= f) e ∙ h

-- a text that is cut is its two parts, with a hyphen between

record IsCut (text front back : List ℕ) : Type 0 where
  is : text ≡ front ++ 45 ∷ back

cut_if : (text : List ℕ) (test : Bool) (parts : List ℕ × List ℕ) → test ≡ nat_lt (position_or_len (is_byte 45) text) (length text)
    → (if test then Some (before_first (is_byte 45) text, after_first (is_byte 45) text) else None) ≡ Some parts → IsCut text parts.0 parts.1
cut_if text false parts e h = cc h
cut_if text true parts e h =
    let within = ltb-true _ _ (sym e) in
    let hyphen : get_or text (position_or_len (is_byte 45) text) 0 ≡ 45 = eqb-true _ 45 (passes_at_first (is_byte 45) text 0 within) in
    let is = split_at_first (is_byte 45) text 0 within ∙ ap (λ z. before_first (is_byte 45) text ++ z ∷ after_first (is_byte 45) text) hyphen in
    let same : (before_first (is_byte 45) text, after_first (is_byte 45) text) ≡ parts = cc h in
    record { is = subst (λ p. text ≡ p.0 ++ 45 ∷ p.1) same is }

cut_is : (text : List ℕ) (parts : List ℕ × List ℕ) → cut 45 text ≡ Some parts → IsCut text parts.0 parts.1
cut_is text parts h = cut_if text _ parts refl h

cut_from : (front back : List ℕ) → ((k : ℕ) → k < length front → is_byte 45 (get_or front k 0) ≡ false) → cut 45 (front ++ 45 ∷ back) ≡ Some (front, back)
cut_from front back none =
    let text = front ++ 45 ∷ back in
    let size : length text ≡ length front + suc (length back) = length-append front (45 ∷ back) in
    let place : position_or_len (is_byte 45) text ≡ length front =
    position_or_len_is (is_byte 45) text (length front) 0 (omega (arith, size))
    (λ k l. ap (is_byte 45) (get_or_append_left front (45 ∷ back) 0 k l) ∙ none k l)
    (λ l. ap (is_byte 45) (get_or_at front 45 back 0 (length front) refl)) in
    let test : nat_lt (length front) (length text) ≡ true = lt-ltb _ _ (omega (arith, size)) in
    let behind : drop (length front + 1) text ≡ back =
    ap (drop (length front + 1)) (sym (append_assoc front (45 ∷ []) back)) ∙ drop_at (front ++ 45 ∷ []) back (length front + 1) (length_push front 45) in
    let before : take (length front) text ≡ front = take_at front (45 ∷ back) (length front) refl in
    rw (place, test, behind, before) refl

digits_no_hyphen : (ds : List ℕ) → AllDigits 10 ds → (k : ℕ) → k < length ds → is_byte 45 (get_or ds k 0) ≡ false
digits_no_hyphen ds d k l = let h = digit_at ds k d l in ne_eqb (get_or ds k 0) 45 (λ e. omega (arith, h.0, e))

-- a number and a hyphen

record IsNumberThen (most : ℕ) (text : List ℕ) (n : ℕ) (rest : List ℕ) : Type 0 where
  is : text ≡ decimal n ++ 45 ∷ rest
  small : n < 10 ^ most

then_is : (most : ℕ) (text : List ℕ) (p : ℕ × List ℕ) → number_then most text ≡ Some p → IsNumberThen most text p.0 p.1
unfolding number_then
then_is most text p h =
    let one = stepped _ _ _ h in
    let two = stepped _ _ _ one.gives in
    let parts = cut_is text one.from one.was in
    let plain = plain_is most one.from.0 two.from two.was in
    let same : (two.from, one.from.1) ≡ p = cc (two.gives) in
    subst (λ q. IsNumberThen most text q.0 q.1) same
    (record { is = parts.is ∙ ap (λ z. z ++ 45 ∷ one.from.1) plain.is; small = plain.small })

then_from : (most n : ℕ) (rest : List ℕ) → 0 < most → n < 10 ^ most → n < 10 ^ 18 → number_then most (decimal n ++ 45 ∷ rest) ≡ Some (n, rest)
unfolding number_then
then_from most n rest some few small =
    let digits = (decimal_is_IsNumeral n (omega arith)).0.1 in
    step _ _ _ _ (cut_from (decimal n) rest (digits_no_hyphen (decimal n) digits))
    (step _ _ _ _ (plain_from most n some few small) refl)

-- the five numbers

record AreNumbers (text : List ℕ) (c : Cursor) : Type 0 where
  fits : FitsText c
  is : text ≡ numbers_text c.commit c.value.departure c.value.arrival c.value.rides c.value.cost

time_fits : (n : ℕ) → n < 10 ^ 18 → FitsTime (pos n)
time_fits n h = record { low = omega (arith, ints); high = omega (arith, ints, h) }

numbers_are : (text : List ℕ) (c : Cursor) → numbers_in text ≡ Some c → AreNumbers text c
unfolding numbers_in
numbers_are text c h =
    let s1 = stepped _ _ _ h in
    let s2 = stepped _ _ _ s1.gives in
    let s3 = stepped _ _ _ s2.gives in
    let s4 = stepped _ _ _ s3.gives in
    let s5 = stepped _ _ _ s4.gives in
    let commit = then_is 18 text s1.from s1.was in
    let departure = then_is 18 s1.from.1 s2.from s2.was in
    let arrival = then_is 18 s2.from.1 s3.from s3.was in
    let rides = then_is 9 s3.from.1 s4.from s4.was in
    let cost = plain_is 18 s4.from.1 s5.from s5.was in
    let is =
    commit.is
    ∙ ap (λ z. decimal s1.from.0 ++ 45 ∷ z) (departure.is
    ∙ ap (λ z. decimal s2.from.0 ++ 45 ∷ z) (arrival.is
    ∙ ap (λ z. decimal s3.from.0 ++ 45 ∷ z) (rides.is ∙ ap (λ z. decimal s4.from.0 ++ 45 ∷ z) cost.is))) in
    let read : Cursor = record { commit = s1.from.0; value = record { departure = pos s2.from.0; arrival = pos s3.from.0; rides = s4.from.0; cost = s5.from } } in
    let same : read ≡ c = cc (s5.gives) in
    subst (AreNumbers text) same
    (record {
      fits = record {
        commit = commit.small;
        departure = time_fits s2.from.0 departure.small;
        arrival = time_fits s3.from.0 arrival.small;
        rides = rides.small;
        cost = cost.small;
      };
      is = is;
    })

numbers_from : (commit departure arrival rides cost : ℕ) → commit < 10 ^ 18 → departure < 10 ^ 18 → arrival < 10 ^ 18 → rides < 10 ^ 9 → cost < 10 ^ 18
    → numbers_in (numbers_text commit (pos departure) (pos arrival) rides cost) ≡ Some (record { commit = commit; value = record { departure = pos departure; arrival = pos arrival; rides = rides; cost = cost } })
unfolding numbers_in
numbers_from commit departure arrival rides cost a b c d e =
    step _ _ _ _ (then_from 18 commit _ (omega arith) a a)
    (step _ _ _ _ (then_from 18 departure _ (omega arith) b b)
    (step _ _ _ _ (then_from 18 arrival _ (omega arith) c c)
    (step _ _ _ _ (then_from 9 rides _ (omega arith) d (omega (arith, d))) (step _ _ _ _ (plain_from 18 cost (omega arith) e e) refl))))

record IsNatural (t : ℤ) : Type 0 where
  number : ℕ
  is : t ≡ pos number
  small : number < 10 ^ 18

natural : (t : ℤ) → FitsTime t → IsNatural t
natural (pos n) h = record { number = n; is = refl; small = omega (arith, ints, h.high) }
natural (negsuc n) h = absurd (omega (arith, ints, h.low))

-- the numbers of a cursor that fits
read_numbers : (c : Cursor) → FitsText c → numbers_in (numbers_text c.commit c.value.departure c.value.arrival c.value.rides c.value.cost) ≡ Some c
read_numbers c h =
    let d = natural c.value.departure h.departure in
    let a = natural c.value.arrival h.arrival in
    let reads : ℤ → ℤ → Type 0 = λ t u. numbers_in (numbers_text c.commit t u c.value.rides c.value.cost) ≡ Some (record { commit = c.commit; value = record { departure = t; arrival = u; rides = c.value.rides; cost = c.value.cost } }) in
    subst (λ t. reads t c.value.arrival) (sym d.is)
    (subst (λ u. reads (pos d.number) u) (sym a.is) (numbers_from c.commit d.number a.number c.value.rides c.value.cost h.commit d.small a.small h.rides h.cost))

-- the text of a cursor

record IsText (text : List ℕ) (c : Cursor) : Type 0 where
  fits : FitsText c
  is : text ≡ cursor_text_of c

bytes_same : (xs ys : List ℕ) → bytes_eq xs ys ≡ true → xs ≡ ys
bytes_same xs ys h = (bytes_eq-Decides xs ys).0 h

version_if : (front rest : List ℕ) (c : Cursor) (test : Bool) → test ≡ bytes_eq front (codes "v1") → (if test then numbers_in rest else None) ≡ Some c
    → IsText (front ++ 45 ∷ rest) c
version_if front rest c false e h = cc h
version_if front rest c true e h =
    let version : front ≡ codes "v1" = bytes_same front (codes "v1") (sym e) in
    let numbers = numbers_are rest c h in
    record { fits = numbers.fits; is = ap (λ z. z ++ 45 ∷ rest) version ∙ ap (λ z. codes "v1-" ++ z) numbers.is }

text_is : (text : List ℕ) (c : Cursor) → cursor_of text ≡ Some c → IsText text c
unfolding cursor_of
text_is text c h =
    let one = stepped _ _ _ h in
    let parts = cut_is text one.from one.was in
    subst (λ z. IsText z c) (sym parts.is) (version_if one.from.0 one.from.1 c _ refl one.gives)

version_no_hyphen : (k : ℕ) → k < 2 → is_byte 45 (get_or (codes "v1") k 0) ≡ false
version_no_hyphen zero l = refl
version_no_hyphen (suc zero) l = refl
version_no_hyphen (suc (suc k)) l = absurd (omega arith)

-- a cursor that fits is read from its text
pub reads_back : (c : Cursor) → FitsText c → cursor_of (cursor_text_of c) ≡ Some c
unfolding cursor_of
reads_back c h =
    step _ _ _ _ (cut_from (codes "v1") (numbers_text c.commit c.value.departure c.value.arrival c.value.rides c.value.cost) version_no_hyphen)
    (read_numbers c h)

-- what a text spells is exactly the cursor whose text it is
pub exact : (text : List ℕ) (r : Option Cursor) → r ≡ cursor_of text → IsCursorOf text r
exact text (Some c) e = let h = text_is text c (sym e) in (h.fits, h.is)
exact text None e = λ c fits is. let h : cursor_of text ≡ Some c = ap cursor_of is ∙ reads_back c fits in let k : None ≡ Some c = e ∙ h in cc k

fits_word : (t : ℤ) → FitsTime t → FitsSigned w64 t
fits_word (pos n) h = record { sfits = omega (arith, ints, h.high) }
fits_word (negsuc n) h = absurd (omega (arith, ints, h.low))

-- times that were written as words of 64 bits
pub times_back : (c : Cursor) → FitsText c
    → codes "v1-" ++ numbers_text c.commit (to_z w64 (of_z w64 c.value.departure)) (to_z w64 (of_z w64 c.value.arrival)) c.value.rides c.value.cost ≡ cursor_text_of c
times_back c h =
    let text : ℤ → ℤ → List ℕ = λ t u. codes "v1-" ++ numbers_text c.commit t u c.value.rides c.value.cost in
    ap (λ t. text t (to_z w64 (of_z w64 c.value.arrival))) (to_z-of_z w64 c.value.departure (fits_word c.value.departure h.departure))
    ∙ ap (λ u. text c.value.departure u) (to_z-of_z w64 c.value.arrival (fits_word c.value.arrival h.arrival))
