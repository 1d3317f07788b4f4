-- No two items stand at the front of the same bytes.
use Rattle.std.proofs.Common.{◌≡◌, ℕ, ◌+◌, ◌<◌, ◌≤◌, inl, inr, List, [], ◌++◌, length, take, drop, Option, Some, None, refl, sym, ap, subst, ◌∙◌, arith, length-append}
use Rattle.std.specs.Option.{is_some, unwrap_or}
use Rattle.std.proofs.lemmas.Bool.{cases_lt, false≢true}
use Rattle.std.proofs.lemmas.List.{take_at, drop_at}
use Rattle.httparse.specs.Grammar.{RequestHead}
use Rattle.httparse.proofs.GrammarLemmas.{request_unique}
use Rattle.http_read.specs.Lines.{whole_lines, front, lines_after, IsMark, HasNoMark, IsSpent, HasHead}
use Rattle.http_read.specs.Head.{IsHead, refusal, body_length, method_of}
use Rattle.http_read.specs.Item.{Item, RequestAt, RefusedAt, IsRequest, kept_body}
use Rattle.http_read.specs.declared.request.HttpRequest.{HttpRequest}
use Rattle.http_read.specs.declared.request.HeadFault.{HeadFault}
use Rattle.http_read.specs.declared.request.HeadFault.TheVariants as fault
use Rattle.http_read.specs.declared.request.Next.{Next}
use Rattle.http_read.specs.declared.request.Next.TheVariants as next

-- an earlier request line is the only one
not_before : (bytes : List ℕ) (p m q n : ℕ) → IsMark bytes p m → IsMark bytes q n → p < q → ⊥
not_before bytes p m q n a b early = false≢true (sym a.first ∙ b.before p early)

-- and then an earlier mark is the only one
not_sooner : (bytes : List ℕ) (p m n : ℕ) → IsMark bytes p m → IsMark bytes p n → m < n → ⊥
not_sooner bytes p m n a b early = false≢true (sym (b.between m a.after early) ∙ a.last)

pub one_request_line : (bytes : List ℕ) (p m q n : ℕ) → IsMark bytes p m → IsMark bytes q n → p ≡ q
one_request_line bytes p m q n a b =
    elim (cases_lt p q) [
      | inl early ↦ absurd (not_before bytes p m q n a b early)
      | inr late ↦ elim (cases_lt q p) [
        | inl before ↦ absurd (not_before bytes q n p m b a before)
        | inr same ↦ omega arith
      ]
    ]

pub one_mark : (bytes : List ℕ) (p m n : ℕ) → IsMark bytes p m → IsMark bytes p n → m ≡ n
one_mark bytes p m n a b =
    elim (cases_lt m n) [
      | inl early ↦ absurd (not_sooner bytes p m n a b early)
      | inr late ↦ elim (cases_lt n m) [
        | inl before ↦ absurd (not_sooner bytes p n m b a before)
        | inr same ↦ omega arith
      ]
    ]

-- the text of the head and the number of its lines are the bytes' own
pub one_head_text : (bytes text other : List ℕ) (k l : ℕ) → HasHead bytes text k → HasHead bytes other l → (text ≡ other) × (k ≡ l)
one_head_text bytes text other k l a b =
    let p = one_request_line bytes a.request a.mark b.request b.mark a.marked b.marked in
    let m = one_mark bytes a.request a.mark b.mark a.marked (subst (λ z. IsMark bytes z b.mark) (sym p) b.marked) in
    let c = a.lines_is in
    let d = b.lines_is in
    (a.text_is ∙ (ap (λ n. front (n + 1) bytes) m ∙ sym b.text_is), omega arith)

-- a text is at most one head
pub one_head : (text : List ℕ) (h k : RequestHead) → IsHead text h → IsHead text k → h ≡ k
one_head text h k a b = (request_unique text h k [] [] a.reads b.reads).0

-- and a body of its length is the one, with what is behind it
pub one_body : (bytes text body content r s : List ℕ) (n : ℕ) → bytes ≡ text ++ (body ++ r) → bytes ≡ text ++ (content ++ s) → length body ≡ n → length content ≡ n → (body ≡ content) × (r ≡ s)
one_body bytes text body content r s n a b long wide =
    let behind : body ++ r ≡ content ++ s =
    sym (drop_at text (body ++ r) (length text) refl) ∙ (ap (drop (length text)) (sym a ∙ b) ∙ drop_at text (content ++ s) (length text) refl) in (
      sym (take_at body r n long) ∙ (ap (take n) behind ∙ take_at content s n wide),
      sym (drop_at body r n long) ∙ (ap (drop n) behind ∙ drop_at content s n wide),
    )

one_request : (h : RequestHead) (body content : List ℕ) (x y : HttpRequest) → IsRequest h body x → IsRequest h content y → body ≡ content → x ≡ y
one_request h body content x y a b same =
    let method = a.method ∙ sym b.method in
    let target = a.target ∙ sym b.target in
    let close = a.close ∙ sym b.close in
    let kept = a.body ∙ (ap (kept_body (method_of h.method)) same ∙ sym b.body) in
    λ i. record { method = method i; target = target i; close = close i; body = kept i }

-- what a head that is not refused answers
data OfBody (bytes text : List ℕ) (h : RequestHead) (x : Next) : Type 0 where
  Short : length bytes < length text + body_length h → x ≡ next.CutShort → OfBody bytes text h x
  Whole : (request : HttpRequest) (body r : List ℕ) → length body ≡ body_length h → bytes ≡ text ++ (body ++ r) → IsRequest h body request → x ≡ next.Request request → OfBody bytes text h x

one_of_body : (bytes text : List ℕ) (h : RequestHead) (x y : Next) → OfBody bytes text h x → OfBody bytes text h y → x ≡ y
one_of_body bytes text h x y (Short a e) (Short b f) = e ∙ sym f
one_of_body bytes text h x y (Short a e) (Whole request body r n is i f) = absurd (omega (arith, ap length is, length-append text (body ++ r), length-append body r))
one_of_body bytes text h x y (Whole request body r n is i f) (Short a e) = absurd (omega (arith, ap length is, length-append text (body ++ r), length-append body r))
one_of_body bytes text h x y (Whole request body r n is i e) (Whole other content s m as' j f) =
    e ∙ (ap (λ z. next.Request z) (one_request h body content request other i j (one_body bytes text body content r s (body_length h) is as' n m).0) ∙ sym f)

-- what a head answers
data OfHead (bytes text : List ℕ) (h : RequestHead) (x : Next) : Type 0 where
  Refuses : (f : HeadFault) → refusal h ≡ Some f → x ≡ next.Refused f → OfHead bytes text h x
  Accepts : refusal h ≡ None → OfBody bytes text h x → OfHead bytes text h x

some_none : (o : Option HeadFault) (f : HeadFault) → o ≡ Some f → o ≡ None → ⊥
some_none o f a b = false≢true (sym (ap is_some b) ∙ ap is_some a)

one_of_head : (bytes text : List ℕ) (h : RequestHead) (x y : Next) → OfHead bytes text h x → OfHead bytes text h y → x ≡ y
one_of_head bytes text h x y (Refuses f a e) (Refuses g b k) = e ∙ (ap (λ o. next.Refused (unwrap_or o fault.Head)) (sym a ∙ b) ∙ sym k)
one_of_head bytes text h x y (Refuses f a e) (Accepts b k) = absurd (some_none (refusal h) f a b)
one_of_head bytes text h x y (Accepts b k) (Refuses f a e) = absurd (some_none (refusal h) f a b)
one_of_head bytes text h x y (Accepts a e) (Accepts b k) = one_of_body bytes text h x y e k

-- what the text before a mark answers
data OfMark (bytes text : List ℕ) (lines : ℕ) (x : Next) : Type 0 where
  Many : 64 < lines → x ≡ next.Refused fault.Headers → OfMark bytes text lines x
  Bad : lines ≤ 64 → ((h : RequestHead) → IsHead text h → ⊥) → x ≡ next.Refused fault.Head → OfMark bytes text lines x
  Good : (h : RequestHead) → lines ≤ 64 → IsHead text h → OfHead bytes text h x → OfMark bytes text lines x

one_of_mark : (bytes text : List ℕ) (lines : ℕ) (x y : Next) → OfMark bytes text lines x → OfMark bytes text lines y → x ≡ y
one_of_mark bytes text lines x y (Many a e) (Many b f) = e ∙ sym f
one_of_mark bytes text lines x y (Many a e) (Bad few none f) = absurd (omega arith)
one_of_mark bytes text lines x y (Many a e) (Good h few is k) = absurd (omega arith)
one_of_mark bytes text lines x y (Bad few none e) (Many b f) = absurd (omega arith)
one_of_mark bytes text lines x y (Bad few none e) (Bad less never f) = e ∙ sym f
one_of_mark bytes text lines x y (Bad few none e) (Good h less is k) = absurd (none h is)
one_of_mark bytes text lines x y (Good h few is e) (Many b f) = absurd (omega arith)
one_of_mark bytes text lines x y (Good h few is e) (Bad less none f) = absurd (none h is)
one_of_mark bytes text lines x y (Good h few is e) (Good k less other f) =
    one_of_head bytes text h x y e (subst (λ z. OfHead bytes text z y) (sym (one_head text h k is other)) f)

-- what the bytes answer
data OfBytes (bytes : List ℕ) (x : Next) : Type 0 where
  Nothing : bytes ≡ [] → x ≡ next.End → OfBytes bytes x
  Spent : HasNoMark bytes → IsSpent bytes → x ≡ next.Refused fault.Headers → OfBytes bytes x
  Inside : HasNoMark bytes → 0 < length bytes → (IsSpent bytes → ⊥) → x ≡ next.CutShort → OfBytes bytes x
  Marked : (text : List ℕ) (lines : ℕ) → HasHead bytes text lines → OfMark bytes text lines x → OfBytes bytes x

nothing_spent : (bytes : List ℕ) → bytes ≡ [] → IsSpent bytes → ⊥
unfolding lines_after
nothing_spent bytes e (inl many) = let none = ap (λ b. length (whole_lines b)) e in absurd (omega arith)
nothing_spent bytes e (inr long) = absurd (omega (arith, ap length e))

nothing_marked : (bytes text : List ℕ) (lines : ℕ) → bytes ≡ [] → HasHead bytes text lines → ⊥
unfolding lines_after
nothing_marked bytes text lines e h = let whole = h.marked.whole in let none = ap (λ b. length (whole_lines b)) e in absurd (omega arith)

one_of_bytes : (bytes : List ℕ) (x y : Next) → OfBytes bytes x → OfBytes bytes y → x ≡ y
one_of_bytes bytes x y (Nothing a e) (Nothing b f) = e ∙ sym f
one_of_bytes bytes x y (Nothing a e) (Spent b c f) = absurd (nothing_spent bytes a c)
one_of_bytes bytes x y (Nothing a e) (Inside b c d f) = absurd (omega (arith, ap length a))
one_of_bytes bytes x y (Nothing a e) (Marked text lines b f) = absurd (nothing_marked bytes text lines a b)
one_of_bytes bytes x y (Spent a c e) (Nothing b f) = absurd (nothing_spent bytes b c)
one_of_bytes bytes x y (Spent a c e) (Spent b d f) = e ∙ sym f
one_of_bytes bytes x y (Spent a c e) (Inside b d k f) = absurd (k c)
one_of_bytes bytes x y (Spent a c e) (Marked text lines b f) = absurd (a b.request b.mark b.marked)
one_of_bytes bytes x y (Inside a c d e) (Nothing b f) = absurd (omega (arith, ap length b))
one_of_bytes bytes x y (Inside a c d e) (Spent b k f) = absurd (d k)
one_of_bytes bytes x y (Inside a c d e) (Inside b k l f) = e ∙ sym f
one_of_bytes bytes x y (Inside a c d e) (Marked text lines b f) = absurd (a b.request b.mark b.marked)
one_of_bytes bytes x y (Marked text lines a e) (Nothing b f) = absurd (nothing_marked bytes text lines b a)
one_of_bytes bytes x y (Marked text lines a e) (Spent b c f) = absurd (b a.request a.mark a.marked)
one_of_bytes bytes x y (Marked text lines a e) (Inside b c d f) = absurd (b a.request a.mark a.marked)
one_of_bytes bytes x y (Marked text lines a e) (Marked other many b f) =
    let same = one_head_text bytes text other lines many a b in
    one_of_mark bytes text lines x y e (subst (λ z. OfMark bytes z lines y) (sym same.0) (subst (λ n. OfMark bytes other n y) (sym same.1) f))

refused_so : (bytes : List ℕ) (f : HeadFault) → RefusedAt bytes f → OfBytes bytes (next.Refused f)
refused_so bytes f i = Marked i.0 i.2.lines i.2.marked (Good i.1 i.2.few i.2.head (Refuses f i.3 refl))

item_so : (bytes : List ℕ) (x : Next) (r : List ℕ) → Item bytes x r → OfBytes bytes x
item_so bytes (next.Request request) r i = Marked i.0 i.3.lines i.3.marked (Good i.1 i.3.few i.3.head (Accepts i.4 (Whole request i.2 r i.5 i.6 i.7 refl)))
item_so bytes next.End r i = Nothing i refl
item_so bytes (next.Refused fault.Head) r i = Marked i.0 i.1 i.2 (Bad i.3 i.4 refl)
item_so bytes (next.Refused fault.Headers) r (inl i) = Spent i.0 i.1 refl
item_so bytes (next.Refused fault.Headers) r (inr i) = Marked i.0 i.1 i.2 (Many i.3 refl)
item_so bytes (next.Refused fault.Coding) r i = refused_so bytes fault.Coding i
item_so bytes (next.Refused fault.Length) r i = refused_so bytes fault.Length i
item_so bytes (next.Refused fault.Large) r i = refused_so bytes fault.Large i
item_so bytes (next.Refused fault.NoLength) r i = refused_so bytes fault.NoLength i
item_so bytes next.CutShort r (inl i) = Inside i.no_mark i.some i.not_spent refl
item_so bytes next.CutShort r (inr i) = Marked i.0 i.2.lines i.2.marked (Good i.1 i.2.few i.2.head (Accepts i.3 (Short i.4 refl)))
item_so bytes next.ReadFault r i = absurd i
item_so bytes next.Memory r i = absurd i

pub one_item : (bytes : List ℕ) (x y : Next) (r s : List ℕ) → Item bytes x r → Item bytes y s → x ≡ y
one_item bytes x y r s i j = one_of_bytes bytes x y (item_so bytes x r i) (item_so bytes y s j)

pub one_rest : (bytes : List ℕ) (x y : HttpRequest) (r s : List ℕ) → RequestAt bytes x r → RequestAt bytes y s → r ≡ s
one_rest bytes x y r s i j =
    let text = (one_head_text bytes i.0 j.0 i.3.lines j.3.lines i.3.marked j.3.marked).0 in
    let head = one_head i.0 i.1 j.1 i.3.head (subst (λ t. IsHead t j.1) (sym text) j.3.head) in
    (one_body bytes i.0 i.2 j.2 r s (body_length i.1) i.6 (subst (λ t. bytes ≡ t ++ (j.2 ++ s)) (sym text) j.6) i.5 (j.5 ∙ ap body_length (sym head))).1
