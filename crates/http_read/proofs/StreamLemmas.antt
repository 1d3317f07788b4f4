-- What stands at the front of a stream, from what is held of it.
use Rattle.std.proofs.Common.{◌≡◌, ℕ, ◌<◌, ◌≤◌, inl, inr, refl, List, [], ◌∷◌, ◌++◌, length, take, drop, min, Option, Some, None, sym, ap, subst, ◌∙◌, append_assoc, arith, length-append}
use Rattle.std.proofs.lemmas.Bool.{cases_lt}
use Rattle.std.proofs.lemmas.List.{append-nil, take-append-drop, take_at, drop_at, take_all, drop_all, length-take-le}
use Rattle.http_read.specs.Lines.{HasNoMark, IsSpent, HasHead}
use Rattle.http_read.specs.Head.{StartOf}
use Rattle.http_read.specs.Item.{RequestAt, EndsInBody, kept_body}
use Rattle.http_read.specs.Held.{Stays, KeepsTelling, IsShorter, IsUnfinished, ReadsFewer, AsksFor, BodyFollows, Answers}
use Rattle.http_read.specs.declared.head.Asked.{Asked}
use Rattle.http_read.specs.declared.head.Start.TheVariants as start
use Rattle.http_read.specs.declared.request.HttpRequest.{HttpRequest}
use Rattle.http_read.specs.declared.request.HeadFault.{HeadFault}
use Rattle.http_read.specs.declared.request.HeadFault.TheVariants as fault
use Rattle.http_read.specs.declared.request.Next.{Next}
use Rattle.http_read.specs.declared.request.Next.TheVariants as next
use Rattle.http_read.proofs.LineLemmas.{lines_more, has_head_more}

-- the head of what is held is the head of the whole
head_of_whole : (whole held more text : List ℕ) (lines : ℕ) → whole ≡ held ++ more → HasHead held text lines → HasHead whole text lines
head_of_whole whole held more text lines e h = subst (λ b. HasHead b text lines) (sym e) (has_head_more held more text lines h)

spent_more : (held more : List ℕ) → IsSpent held → IsSpent (held ++ more)
spent_more held more (inl many) = let l = lines_more held more in inl (omega arith)
spent_more held more (inr long) = inr (omega (arith, length-append held more))

pub answers_many : (left after : Option (List ℕ)) (before held text : List ℕ) (lines : ℕ) → Stays left before after held → HasHead held text lines → 64 < lines → Answers left before after held (next.Refused fault.Headers)
answers_many None None before held text lines s h many = tt
answers_many None (Some after) before held text lines s h many = s
answers_many (Some left) None before held text lines s h many = s
answers_many (Some left) (Some after) before held text lines s h many = inr (text, lines, head_of_whole (before ++ left) held after text lines s h, many)

pub answers_spent : (left after : Option (List ℕ)) (before held : List ℕ) → Stays left before after held → ((more : List ℕ) → HasNoMark (held ++ more)) × IsSpent held → Answers left before after held (next.Refused fault.Headers)
answers_spent None None before held s f = tt
answers_spent None (Some after) before held s f = s
answers_spent (Some left) None before held s f = s
answers_spent (Some left) (Some after) before held s f = inl (subst HasNoMark (sym s) (f.0 after), subst IsSpent (sym s) (spent_more held after f.1))

-- with no mark in what was read, it is unfinished
unfinished : (read : List ℕ) → HasNoMark read → (IsSpent read → ⊥) → IsUnfinished read
unfinished [] none few = inl refl
unfinished (b ∷ bytes) none few = inr (inl (record { some = omega arith; no_mark = none; not_spent = few }))

pub answers_failed : (left after : Option (List ℕ)) (before held : List ℕ) → Stays left before after held → HasNoMark held × (IsSpent held → ⊥) → Answers left before after held next.ReadFault
answers_failed None None before held s f = tt
answers_failed None (Some after) before held s f = s
answers_failed (Some left) None before held s f = s
answers_failed (Some left) (Some after) before held s f = (held, s, unfinished held f.0 f.1)

pub answers_memory : (left after : Option (List ℕ)) (before held : List ℕ) → KeepsTelling left after → Answers left before after held next.Memory
answers_memory None None before held k = tt
answers_memory None (Some after) before held k = k
answers_memory (Some left) None before held k = k
answers_memory (Some left) (Some after) before held k = tt

-- a refusal of the head's text is one of the whole
pub answers_refused : (left after : Option (List ℕ)) (before held text : List ℕ) (lines : ℕ) (f : HeadFault) → Stays left before after held → HasHead held text lines → lines ≤ 64 → StartOf text (start.Refused f) → Answers left before after held (next.Refused f)
answers_refused None None before held text lines f s h few r = tt
answers_refused None (Some after) before held text lines f s h few r = s
answers_refused (Some left) None before held text lines f s h few r = s
answers_refused (Some left) (Some after) before held text lines fault.Head s h few r = (text, lines, head_of_whole (before ++ left) held after text lines s h, few, r)
answers_refused (Some left) (Some after) before held text lines fault.Headers s h few r = absurd r
answers_refused (Some left) (Some after) before held text lines fault.Coding s h few r =
    (text, r.0, record { lines = lines; marked = head_of_whole (before ++ left) held after text lines s h; few = few; head = r.1 }, r.2)
answers_refused (Some left) (Some after) before held text lines fault.Length s h few r =
    (text, r.0, record { lines = lines; marked = head_of_whole (before ++ left) held after text lines s h; few = few; head = r.1 }, r.2)
answers_refused (Some left) (Some after) before held text lines fault.Large s h few r =
    (text, r.0, record { lines = lines; marked = head_of_whole (before ++ left) held after text lines s h; few = few; head = r.1 }, r.2)
answers_refused (Some left) (Some after) before held text lines fault.NoLength s h few r =
    (text, r.0, record { lines = lines; marked = head_of_whole (before ++ left) held after text lines s h; few = few; head = r.1 }, r.2)

-- the whole, cut behind the head
cut_behind : (whole held after : List ℕ) (size : ℕ) → whole ≡ held ++ after → whole ≡ take size held ++ (drop size held ++ after)
cut_behind whole held after size e =
    e ∙ (ap (λ z. z ++ after) (sym (take-append-drop size held)) ∙ append_assoc (take size held) (drop size held) after)

request_at : (whole held after : List ℕ) (size lines : ℕ) (asked : Asked) (body now rest : List ℕ) (request : HttpRequest) → whole ≡ held ++ after → HasHead held (take size held) lines → lines ≤ 64 → StartOf (take size held) (start.Asks asked) → drop size held ++ after ≡ (body ++ now) ++ rest → length body ≡ asked.length → AsksFor asked body request → RequestAt whole request (now ++ rest)
request_at whole held after size lines asked body now rest request e h few s stays long asks = (
  take size held,
  s.0,
  body,
  record { lines = lines; marked = head_of_whole whole held after (take size held) lines e h; few = few; head = s.1 },
  s.2,
  long ∙ s.6,
  cut_behind whole held after size e ∙ ap (λ z. take size held ++ z) (stays ∙ append_assoc body now rest),
  record { method = asks.method ∙ s.3; target = asks.target ∙ s.4; close = asks.close ∙ s.5; body = asks.body ∙ ap (λ m. kept_body m body) s.3 },
)

ends_in_body : (whole held after : List ℕ) (size lines : ℕ) (asked : Asked) → whole ≡ held ++ after → HasHead held (take size held) lines → lines ≤ 64 → StartOf (take size held) (start.Asks asked) → length (drop size held ++ after) < asked.length → EndsInBody whole
ends_in_body whole held after size lines asked e h few s short = (
  take size held,
  s.0,
  record { lines = lines; marked = head_of_whole whole held after (take size held) lines e h; few = few; head = s.1 },
  s.2,
  let length_is = s.6 in omega (arith, ap length (cut_behind whole held after size e), length-append (take size held) (drop size held ++ after)),
)

keeps_stays : (left after : Option (List ℕ)) (before now : List ℕ) → Stays left before after now → KeepsTelling left after
keeps_stays None None before now s = tt
keeps_stays None (Some after) before now s = s
keeps_stays (Some left) None before now s = s
keeps_stays (Some left) (Some after) before now s = tt

keeps_short : (left after : Option (List ℕ)) (before : List ℕ) (size : ℕ) → IsShorter left before after size → KeepsTelling left after
keeps_short None None before size s = tt
keeps_short None (Some after) before size s = s
keeps_short (Some left) None before size s = s
keeps_short (Some left) (Some after) before size s = tt

keeps_fewer : (left after : Option (List ℕ)) (before : List ℕ) (size : ℕ) → ReadsFewer left before after size → KeepsTelling left after
keeps_fewer None None before size s = tt
keeps_fewer None (Some after) before size s = s
keeps_fewer (Some left) None before size s = s
keeps_fewer (Some left) (Some after) before size s = tt

keeps_body : (left after : Option (List ℕ)) (before now : List ℕ) (asked : Asked) (answer : Next) → BodyFollows left before after now asked answer → KeepsTelling left after
keeps_body left after before now asked (next.Request request) b = keeps_stays left after before (b.0 ++ now) b.1
keeps_body left after before now asked next.End b = absurd b
keeps_body left after before now asked (next.Refused f) b = absurd b
keeps_body left after before now asked next.CutShort b = keeps_short left after before asked.length b
keeps_body left after before now asked next.ReadFault b = keeps_fewer left after before asked.length b
keeps_body left after before now asked next.Memory b = b

-- reading the body behind a head answers for the whole
pub answers_asked : (left after last : Option (List ℕ)) (before held now : List ℕ) (size lines : ℕ) (asked : Asked) (answer : Next) → Stays left before after held → HasHead held (take size held) lines → lines ≤ 64 → StartOf (take size held) (start.Asks asked) → BodyFollows after (drop size held) last now asked answer → Answers left before last now answer
answers_asked None None None before held now size lines asked answer s h few t b = tt
answers_asked None None (Some last) before held now size lines asked answer s h few t b = keeps_body None (Some last) (drop size held) now asked answer b
answers_asked None (Some after) last before held now size lines asked answer s h few t b = absurd s
answers_asked (Some left) None last before held now size lines asked answer s h few t b = absurd s
answers_asked (Some left) (Some after) None before held now size lines asked answer s h few t b = keeps_body (Some after) None (drop size held) now asked answer b
answers_asked (Some left) (Some after) (Some last) before held now size lines asked (next.Request request) s h few t b =
    request_at (before ++ left) held after size lines asked b.0 now last request s h few t b.1 b.2 b.3
answers_asked (Some left) (Some after) (Some last) before held now size lines asked next.End s h few t b = absurd b
answers_asked (Some left) (Some after) (Some last) before held now size lines asked (next.Refused f) s h few t b = absurd b
answers_asked (Some left) (Some after) (Some last) before held now size lines asked next.CutShort s h few t b =
    inr (ends_in_body (before ++ left) held after size lines asked s h few t b)
answers_asked (Some left) (Some after) (Some last) before held now size lines asked next.ReadFault s h few t b = (
  held ++ b.0,
  s ∙ (ap (λ z. held ++ z) b.1 ∙ sym (append_assoc held b.0 last)),
  inr (inr (ends_in_body (held ++ b.0) held b.0 size lines asked refl h few t b.2)),
)
answers_asked (Some left) (Some after) (Some last) before held now size lines asked next.Memory s h few t b = tt

-- a body whose front was held
pub whole_body : (left after : Option (List ℕ)) (held front body : List ℕ) (n size : ℕ) → n ≡ min (length held) size → front ≡ take n held → Stays left front after body → length body ≡ size → Stays left held after (body ++ drop n held)
whole_body None None held front body n size few is s long = tt
whole_body None (Some after) held front body n size few is s long = s
whole_body (Some left) None held front body n size few is s long = s
whole_body (Some left) (Some after) held front body n size few is s long =
    elim (cases_lt size (length held)) [
      | inl more ↦
          let cut : n ≡ size = omega arith in
          let short : length front ≡ size = ap length is ∙ (length-take-le n held (omega arith) ∙ cut) in
          let same : front ≡ body = sym (take_at front left size short) ∙ (ap (take size) s ∙ take_at body after size long) in
          let rest : left ≡ after = sym (drop_at front left size short) ∙ (ap (drop size) s ∙ drop_at body after size long) in
          ap (λ z. z ++ left) (sym (take-append-drop n held) ∙ ap (λ z. z ++ drop n held) (sym is ∙ same)) ∙ ap (λ z. (body ++ drop n held) ++ z) rest
      | inr less ↦
          let all : length held ≤ n = omega arith in
          let same : front ≡ held = is ∙ take_all n held all in
          ap (λ z. z ++ left) (sym same) ∙ (s ∙ ap (λ z. z ++ after) (sym (ap (λ z. body ++ z) (drop_all n held all) ∙ append-nil body)))
    ]

-- a body that is not whole has all that was held
pub fewer_body : (left after : Option (List ℕ)) (held front body : List ℕ) (n size : ℕ) → n ≡ min (length held) size → front ≡ take n held → Stays left front after body → length body < size → take (length front) body ≡ front → ReadsFewer left held after size
fewer_body None None held front body n size few is s short begins = tt
fewer_body None (Some after) held front body n size few is s short begins = s
fewer_body (Some left) None held front body n size few is s short begins = s
fewer_body (Some left) (Some after) held front body n size few is s short begins =
    let read = drop (length front) body in
    let whole : front ++ read ≡ body = ap (λ z. z ++ read) (sym begins) ∙ take-append-drop (length front) body in
    let rest : left ≡ read ++ after = sym (drop_at front left (length front) refl) ∙ (ap (drop (length front)) (s ∙ (ap (λ z. z ++ after) (sym whole) ∙ append_assoc front read after)) ∙ drop_at front (read ++ after) (length front) refl) in
    let sizes = length-append front read in
    let size_is = ap length whole in
    let front_is : length front ≡ length (take n held) = ap length is in
    let all : length held ≤ n = elim (cases_lt size (length held)) [
      | inl more ↦ let cut = length-take-le n held (omega arith) in absurd (omega arith)
      | inr less ↦ omega arith
    ] in
    let same : front ≡ held = is ∙ take_all n held all in
    (read, rest, subst (λ z. length z < size) (sym whole ∙ ap (λ z. z ++ read) same) short)
