-- The lines of bytes that go on.
use Rattle.std.proofs.Common.{◌≡◌, ℕ, ◌+◌, ◌-◌, ◌<◌, ◌≤◌, Bool, true, false, cond, eqb, List, [], ◌∷◌, ◌++◌, length, take, drop, get_or, sym, ap, refl, ◌∙◌, append_assoc, arith, length-append, suc, zero}
use Rattle.std.specs.List.{concat}
use Rattle.std.proofs.lemmas.List.{append-nil, get_or_append_left, take-append-le, get_or_push, length_push, drop_at}
use Rattle.std.proofs.Math.Seq.{take-append-add}
use Rattle.http_read.specs.Lines.{lines_after, whole_lines, front, is_empty_line, is_empty_at, IsMark, HasHead}

-- what stands after the last line feed, where these bytes stand before
unfoldable pub open_after : List ℕ → List ℕ → List ℕ
open_after begun [] = begun
open_after begun (b ∷ bytes) = cond (eqb b 10) (open_after [] bytes) (open_after (begun ++ b ∷ []) bytes)

-- the lines of bytes that begin with b, where v says whether it is a line feed
abbrev lines_if : Bool → List ℕ → ℕ → List ℕ → List (List ℕ)
lines_if v begun b bytes = cond v ((begun ++ b ∷ []) ∷ lines_after [] bytes) (lines_after (begun ++ b ∷ []) bytes)

abbrev open_if : Bool → List ℕ → ℕ → List ℕ → List ℕ
open_if v begun b bytes = cond v (open_after [] bytes) (open_after (begun ++ b ∷ []) bytes)

pub lines_after-append : (begun p q : List ℕ) → lines_after begun (p ++ q) ≡ lines_after begun p ++ lines_after (open_after begun p) q
unfolding lines_after open_after
lines_after-append begun [] q = refl
lines_after-append begun (b ∷ p) q =
    elim (eqb b 10) as (λ v. lines_if v begun b (p ++ q) ≡ lines_if v begun b p ++ lines_after (open_if v begun b p) q) [
      | true ↦ ap (λ z. (begun ++ b ∷ []) ∷ z) (lines_after-append [] p q)
      | false ↦ lines_after-append (begun ++ b ∷ []) p q
    ]

-- the lines and what stands after them are the bytes
pub lines_after-whole : (begun p : List ℕ) → begun ++ p ≡ concat (lines_after begun p) ++ open_after begun p
unfolding lines_after open_after
lines_after-whole begun [] = append-nil begun
lines_after-whole begun (b ∷ p) =
    elim (eqb b 10) as (λ v. begun ++ b ∷ p ≡ concat (lines_if v begun b p) ++ open_if v begun b p) [
      | true ↦ sym (append_assoc begun (b ∷ []) p) ∙ (ap (λ z. (begun ++ b ∷ []) ++ z) (lines_after-whole [] p) ∙ sym (append_assoc (begun ++ b ∷ []) (concat (lines_after [] p)) (open_after [] p)))
      | false ↦ sym (append_assoc begun (b ∷ []) p) ∙ lines_after-whole (begun ++ b ∷ []) p
    ]

-- the first line is longer than what stood before it
first_long : (begun q : List ℕ) → 0 < length (lines_after begun q) → length begun < length (get_or (lines_after begun q) 0 [])
unfolding lines_after
first_long begun [] = λ some. absurd (omega arith)
first_long begun (b ∷ q) =
    elim (eqb b 10) as (λ v. 0 < length (lines_if v begun b q) → length begun < length (get_or (lines_if v begun b q) 0 [])) [
      | true ↦ λ some. omega (arith, length_push begun b)
      | false ↦ λ some. let long = first_long (begun ++ b ∷ []) q some in omega (arith, length_push begun b)
    ]

pub concat-append : (a b : List (List ℕ)) → concat (a ++ b) ≡ concat a ++ concat b
concat-append [] b = refl
concat-append (x ∷ a) b = ap (λ z. x ++ z) (concat-append a b) ∙ sym (append_assoc x (concat a) (concat b))

-- a front of some lines has the first of them
first_in : (k : ℕ) (lines : List (List ℕ)) → 0 < k → 0 < length lines → length (get_or lines 0 []) ≤ length (concat (take k lines))
first_in k [] some long = absurd (omega arith)
first_in zero (x ∷ lines) some long = absurd (omega arith)
first_in (suc k) (x ∷ lines) some long = omega (arith, length-append x (concat (take k lines)))

pub lines_more : (p q : List ℕ) → length (whole_lines p) ≤ length (whole_lines (p ++ q))
lines_more p q = omega (arith, ap length (lines_after-append [] p q), length-append (whole_lines p) (lines_after (open_after [] p) q))

pub line_kept : (p q : List ℕ) (i : ℕ) → i < length (whole_lines p) → is_empty_at (p ++ q) i ≡ is_empty_at p i
line_kept p q i h =
    ap (λ l. is_empty_line (get_or l i [])) (lines_after-append [] p q)
    ∙ ap is_empty_line (get_or_append_left (whole_lines p) (lines_after (open_after [] p) q) [] i h)

pub front_kept : (n : ℕ) (p q : List ℕ) → n ≤ length (whole_lines p) → front n (p ++ q) ≡ front n p
front_kept n p q h =
    ap concat (ap (take n) (lines_after-append [] p q) ∙ take-append-le n (whole_lines p) (lines_after (open_after [] p) q) h)

-- a line that is not whole yet takes the front past the bytes
pub front_long : (n : ℕ) (p q : List ℕ) → length (whole_lines p) < n → n ≤ length (whole_lines (p ++ q)) → length p < length (front n (p ++ q))
front_long n p q past within =
    let a = whole_lines p in
    let b = lines_after (open_after [] p) q in
    let whole : whole_lines (p ++ q) ≡ a ++ b = lines_after-append [] p q in
    let many : length (whole_lines (p ++ q)) ≡ length a + length b = ap length whole ∙ length-append a b in
    let k = n - length a in
    let same : n ≡ length a + k = omega arith in
    let split : front n (p ++ q) ≡ concat a ++ concat (take k b) =
    ap (λ z. concat (take n z)) whole ∙ (ap (λ m. concat (take m (a ++ b))) same ∙ (ap concat (take-append-add a b k) ∙ concat-append a (take k b))) in
    let some : 0 < length b = omega arith in
    let far = first_long (open_after [] p) q some in
    let near = first_in k b (omega arith) some in
    omega (arith, ap length split, length-append (concat a) (concat (take k b)), ap length (lines_after-whole [] p), length-append (concat a) (open_after [] p))

-- a byte that is no line feed adds no line
pub lines_byte : (p : List ℕ) (x : ℕ) → eqb x 10 ≡ false → whole_lines (p ++ x ∷ []) ≡ whole_lines p
unfolding lines_after
lines_byte p x other =
    lines_after-append [] p (x ∷ [])
    ∙ (ap (λ v. whole_lines p ++ lines_if v (open_after [] p) x []) other ∙ append-nil (whole_lines p))

-- a line feed adds one
pub lines_feed : (p : List ℕ) → whole_lines (p ++ 10 ∷ []) ≡ whole_lines p ++ (open_after [] p ++ 10 ∷ []) ∷ []
unfolding lines_after
lines_feed p = lines_after-append [] p (10 ∷ [])

pub length_feed : (p : List ℕ) → length (whole_lines (p ++ 10 ∷ [])) ≡ length (whole_lines p) + 1
length_feed p = ap length (lines_feed p) ∙ length_push (whole_lines p) (open_after [] p ++ 10 ∷ [])

-- and the lines are then all of the bytes
pub concat_feed : (p : List ℕ) → concat (whole_lines (p ++ 10 ∷ [])) ≡ p ++ 10 ∷ []
concat_feed p =
    ap concat (lines_feed p)
    ∙ (concat-append (whole_lines p) ((open_after [] p ++ 10 ∷ []) ∷ [])
    ∙ (ap (λ z. concat (whole_lines p) ++ z) (append-nil (open_after [] p ++ 10 ∷ []))
    ∙ (sym (append_assoc (concat (whole_lines p)) (open_after [] p) (10 ∷ []))
    ∙ ap (λ z. z ++ 10 ∷ []) (sym (lines_after-whole [] p)))))

-- the line that it ends
pub line_feed_at : (p : List ℕ) (n : ℕ) → n ≡ length (whole_lines p) → is_empty_at (p ++ 10 ∷ []) n ≡ is_empty_line (drop (length (concat (whole_lines p))) (p ++ 10 ∷ []))
line_feed_at p n same =
    let whole = lines_after-whole [] p in
    let begun = concat (whole_lines p) in
    let open' : drop (length begun) (p ++ 10 ∷ []) ≡ open_after [] p ++ 10 ∷ [] =
    ap (λ z. drop (length begun) (z ++ 10 ∷ [])) whole
    ∙ (ap (drop (length begun)) (append_assoc begun (open_after [] p) (10 ∷ [])) ∙ drop_at begun (open_after [] p ++ 10 ∷ []) (length begun) refl) in
    ap (λ l. is_empty_line (get_or l n [])) (lines_feed p)
    ∙ (ap is_empty_line (get_or_push (whole_lines p) (open_after [] p ++ 10 ∷ []) [] n (sym same)) ∙ ap is_empty_line (sym open'))

-- a mark stays one, however the bytes go on
pub is_mark_more : (p q : List ℕ) (request mark : ℕ) → IsMark p request mark → IsMark (p ++ q) request mark
is_mark_more p q request mark m =
    let more = lines_more p q in
    let whole = m.whole in
    let after = m.after in
    record {
      whole = omega arith;
      after = m.after;
      before = λ i h. line_kept p q i (omega arith) ∙ m.before i h;
      first = line_kept p q request (omega arith) ∙ m.first;
      between = λ i h k. line_kept p q i (omega arith) ∙ m.between i h k;
      last = line_kept p q mark (omega arith) ∙ m.last;
      feeds = m.feeds;
      size = let e = ap length (front_kept (mark + 1) p q (omega arith)) in let s = m.size in omega arith;
    }

pub has_head_more : (p q text : List ℕ) (lines : ℕ) → HasHead p text lines → HasHead (p ++ q) text lines
has_head_more p q text lines h = record {
  request = h.request;
  mark = h.mark;
  marked = is_mark_more p q h.request h.mark h.marked;
  text_is = let whole = h.marked.whole in h.text_is ∙ sym (front_kept (h.mark + 1) p q (omega arith));
  lines_is = h.lines_is;
}
