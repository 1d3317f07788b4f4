-- Some item stands at the front of any bytes.
use Rattle.std.proofs.Common.{◌≡◌, ℕ, ◌+◌, ◌-◌, ◌≤◌, inl, inr, true, false, cond, ltb, List, [], ◌∷◌, ◌++◌, length, take, drop, Option, Some, None, codes, refl, sym, ap, ◌∙◌, append_assoc, arith, length-append}
use Rattle.std.specs.List.{concat}
use Rattle.std.specs.Str.Parse.{digits_value}
use Rattle.std.proofs.lemmas.Bool.{cases_lt}
use Rattle.std.proofs.lemmas.List.{take-append-drop, length-take-le, drop_at}
use Rattle.httparse.specs.Grammar.{RequestHead}
use Rattle.http_read.specs.Lines.{whole_lines, front, HasNoMark, HasHead}
use Rattle.http_read.specs.Fields.{Line, has_line, values_of, is_number}
use Rattle.http_read.specs.Head.{lines_of, method_of, bad_length, missing_length, first_of_two, refusal_of, refusal, body_length, closes}
use Rattle.http_read.specs.Item.{Item, BeginsWith, kept_body}
use Rattle.http_read.specs.declared.request.Method.{Method}
use Rattle.http_read.specs.declared.request.Method.TheVariants as method
use Rattle.http_read.specs.declared.request.HeadFault.{HeadFault}
use Rattle.http_read.specs.declared.request.HeadFault.TheVariants as fault
use Rattle.http_read.specs.declared.request.Next.{Next}
use Rattle.http_read.specs.declared.request.Next.TheVariants as next
use Rattle.http_read.proofs.LineLemmas.{open_after, lines_after-whole, concat-append}

-- a refusal of the four checks
abbrev IsCheck : Option HeadFault → Type 0
IsCheck None = Unit {0}
IsCheck (Some fault.Head) = ⊥
IsCheck (Some fault.Headers) = ⊥
IsCheck (Some fault.Coding) = Unit {0}
IsCheck (Some fault.Length) = Unit {0}
IsCheck (Some fault.Large) = Unit {0}
IsCheck (Some fault.NoLength) = Unit {0}

bad_checks : (values : List (List ℕ)) → IsCheck (bad_length values)
bad_checks [] = tt
bad_checks (value ∷ []) =
    elim (is_number value) as (λ v. IsCheck (cond v (cond (ltb 16777216 (digits_value 10 value)) (Some fault.Large) None) (Some fault.Length))) [
      | true ↦ elim (ltb 16777216 (digits_value 10 value)) as (λ v. IsCheck (cond v (Some fault.Large) None)) [ true ↦ tt | false ↦ tt ]
      | false ↦ tt
    ]
bad_checks (value ∷ other ∷ values) = tt

missing_checks : (m : Method) (values : List (List ℕ)) → IsCheck (missing_length m values)
missing_checks method.Get values = tt
missing_checks method.Post [] = tt
missing_checks method.Post (value ∷ values) = tt
missing_checks method.Other values = tt

first_checks : (a b : Option HeadFault) → IsCheck a → IsCheck b → IsCheck (first_of_two a b)
first_checks None b x y = y
first_checks (Some f) b x y = x

refusal_checks : (m : Method) (lines : List Line) → IsCheck (refusal_of m lines)
refusal_checks m lines =
    let lengths = values_of (codes "content-length") lines in
    elim (has_line (codes "transfer-encoding") lines) as (λ v. IsCheck (cond v (Some fault.Coding) (first_of_two (bad_length lengths) (missing_length m lengths)))) [
      | true ↦ tt
      | false ↦ first_checks (bad_length lengths) (missing_length m lengths) (bad_checks lengths) (missing_checks m lengths)
    ]

-- no item stands at the front
abbrev NoItem : List ℕ → Type 0
NoItem bytes = (x : Next) (r : List ℕ) → Item bytes x r → ⊥

no_bytes : (bytes : List ℕ) → length bytes ≤ 0 → bytes ≡ []
no_bytes [] h = refl
no_bytes (b ∷ bytes) h = absurd (omega arith)

-- the head's text is a front of the bytes
head_front : (bytes text : List ℕ) (lines : ℕ) → HasHead bytes text lines → bytes ≡ text ++ drop (length text) bytes
head_front bytes text lines h =
    let split : bytes ≡ text ++ (concat (drop (h.mark + 1) (whole_lines bytes)) ++ open_after [] bytes) =
    lines_after-whole [] bytes
    ∙ (ap (λ z. concat z ++ open_after [] bytes) (sym (take-append-drop (h.mark + 1) (whole_lines bytes)))
    ∙ (ap (λ z. z ++ open_after [] bytes) (concat-append (take (h.mark + 1) (whole_lines bytes)) (drop (h.mark + 1) (whole_lines bytes)))
    ∙ (append_assoc (front (h.mark + 1) bytes) (concat (drop (h.mark + 1) (whole_lines bytes))) (open_after [] bytes)
    ∙ ap (λ z. z ++ (concat (drop (h.mark + 1) (whole_lines bytes)) ++ open_after [] bytes)) (sym h.text_is)))) in
    split ∙ ap (λ z. text ++ z) (sym (ap (drop (length text)) split ∙ drop_at text (concat (drop (h.mark + 1) (whole_lines bytes)) ++ open_after [] bytes) (length text) refl))

-- a head of the grammar at the front is refused, cut short or a request
with_head : (bytes text : List ℕ) (h : RequestHead) → BeginsWith bytes text h → NoItem bytes → ⊥
with_head bytes text h i none = by_refusal (refusal h) refl (refusal_checks (method_of h.method) (lines_of h))
  where
    n : ℕ
    n = body_length h

    rest : List ℕ
    rest = drop (length text) bytes

    whole : bytes ≡ text ++ rest
    whole = head_front bytes text i.lines i.marked

    by_length : refusal h ≡ None → ⊥
    by_length e = elim (cases_lt (length bytes) (length text + n)) [
      | inl short ↦ none next.CutShort [] (inr (text, h, i, e, short))
      | inr long ↦
          let size : n ≤ length rest = omega (arith, ap length whole, length-append text rest) in
          none (next.Request (record { method = method_of h.method; target = h.target; close = closes h; body = kept_body (method_of h.method) (take n rest) })) (drop n rest)
          (text, h, take n rest, i, e, length-take-le n rest size, whole ∙ ap (λ z. text ++ z) (sym (take-append-drop n rest)), record { method = refl; target = refl; close = refl; body = refl })
    ]

    by_refusal : (o : Option HeadFault) → refusal h ≡ o → IsCheck o → ⊥
    by_refusal None e k = by_length e
    by_refusal (Some fault.Head) e k = k
    by_refusal (Some fault.Headers) e k = k
    by_refusal (Some fault.Coding) e k = none (next.Refused fault.Coding) [] (text, h, i, e)
    by_refusal (Some fault.Length) e k = none (next.Refused fault.Length) [] (text, h, i, e)
    by_refusal (Some fault.Large) e k = none (next.Refused fault.Large) [] (text, h, i, e)
    by_refusal (Some fault.NoLength) e k = none (next.Refused fault.NoLength) [] (text, h, i, e)

-- a marked text is refused, or has a head
with_mark : (bytes text : List ℕ) (lines : ℕ) → HasHead bytes text lines → NoItem bytes → ⊥
with_mark bytes text lines m none = elim (cases_lt 64 lines) [
  | inl many ↦ none (next.Refused fault.Headers) [] (inr (text, lines, m, many))
  | inr few ↦ none (next.Refused fault.Head) [] (text, lines, m, few, λ h is. with_head bytes text h (record { lines = lines; marked = m; few = few; head = is }) none)
]

-- without a mark the bytes are none, spent or cut short
without_mark : (bytes : List ℕ) → HasNoMark bytes → NoItem bytes → ⊥
without_mark bytes no_mark none = elim (cases_lt 0 (length bytes)) [
  | inl some ↦ elim (cases_lt (length (whole_lines bytes)) 67) [
    | inl few ↦ elim (cases_lt (length bytes) 16384) [
      | inl short ↦ none next.CutShort [] (inl (record { some = some; no_mark = no_mark; not_spent = λ spent. elim spent [ inl many ↦ absurd (omega arith) | inr long ↦ absurd (omega arith) ] }))
      | inr long ↦ none (next.Refused fault.Headers) [] (inl (no_mark, inr long))
    ]
    | inr many ↦ none (next.Refused fault.Headers) [] (inl (no_mark, inl many))
  ]
  | inr empty ↦ none next.End [] (no_bytes bytes empty)
]

pub some_item : (bytes : List ℕ) → NoItem bytes → ⊥
some_item bytes none = without_mark bytes (λ request mark m. let after = m.after in with_mark bytes (front (mark + 1) bytes) (mark - (request + 1)) (record { request = request; mark = mark; marked = m; text_is = refl; lines_is = omega arith }) none) none
