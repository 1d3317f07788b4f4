-- What the head of a request says.
--
-- The grammar of a head is that of the crate `httparse`: RFC 9112, sections 2 to 5. That at most 64 header lines are
-- read, which requests are refused for what their head says, and in which order, are this project's own rules; RFC 9112,
-- section 6.1, lets a server refuse a transfer coding by 501, section 6.3 wants a length that is no number refused by
-- 400, and RFC 9110, sections 15.5.12 and 15.5.14, have 411 and 413.
use Rattle.std.specs.Prelude.{◌≡◌, ℕ, ◌≤◌, Bool, ◌||◌, List, [], ◌∷◌, map, length, Option, Some, None, Result, Ok, Err, if◌then◌else◌, ◌==◌, nat_lt, codes, bytes_eq}
use Rattle.std.specs.Str.Parse.{digits_value}
use Rattle.httparse.specs.Grammar.{RequestHead, ReadsRequest}
use Rattle.httparse.specs.Spans.{name_and_value, IsRequestWithin, IsRequestAt}
use Rattle.httparse.specs.declared.spans.HeaderSpan.{HeaderSpan}
use Rattle.httparse.specs.declared.spans.RequestSpans.{RequestSpans}
use Rattle.http_read.specs.Fields.{Line, has_line, values_of, is_number, asks_to_close}
use Rattle.http_read.specs.declared.request.Method.{Method}
use Rattle.http_read.specs.declared.request.Method.TheVariants as method
use Rattle.http_read.specs.declared.request.HeadFault.{HeadFault}
use Rattle.http_read.specs.declared.request.HeadFault.TheVariants as fault
use Rattle.http_read.specs.declared.head.Start.{Start}
use Rattle.http_read.specs.declared.head.Start.TheVariants as start

-- the text is this head, whole
pub record IsHead (text : List ℕ) (h : RequestHead) : Type 0 where
  pub reads : ReadsRequest text h []
  pub few : length h.fields ≤ 64

-- the header lines, without the white space around each value
abbrev pub lines_of : RequestHead → List Line
lines_of h = map name_and_value h.fields

-- the method of this name, which has case (RFC 9110, section 9.1)
unfoldable pub method_of : List ℕ → Method
method_of name = if bytes_eq name (codes "GET") then method.Get else if bytes_eq name (codes "POST") then method.Post else method.Other

-- why a length of these lines is refused
abbrev pub bad_length : List (List ℕ) → Option HeadFault
bad_length [] = None
bad_length (value ∷ []) = if is_number value then (if nat_lt 16777216 (digits_value 10 value) then Some fault.Large else None) else Some fault.Length
bad_length (value ∷ other ∷ values) = Some fault.Length

-- a POST says how long its body is
abbrev pub missing_length : Method → List (List ℕ) → Option HeadFault
missing_length method.Get values = None
missing_length method.Post [] = Some fault.NoLength
missing_length method.Post (value ∷ values) = None
missing_length method.Other values = None

-- the first of two refusals
abbrev pub first_of_two : Option HeadFault → Option HeadFault → Option HeadFault
first_of_two None second = second
first_of_two (Some f) second = Some f

-- why a request with these header lines is refused
abbrev pub refusal_of : Method → List Line → Option HeadFault
refusal_of m lines =
    if has_line (codes "transfer-encoding") lines then Some fault.Coding
    else let lengths = values_of (codes "content-length") lines in first_of_two (bad_length lengths) (missing_length m lengths)

abbrev pub refusal : RequestHead → Option HeadFault
refusal h = refusal_of (method_of h.method) (lines_of h)

-- how many bytes of body follow the head, where it is not refused
abbrev pub length_of : List (List ℕ) → ℕ
length_of [] = 0
length_of (value ∷ values) = digits_value 10 value

abbrev pub body_length : RequestHead → ℕ
body_length h = length_of (values_of (codes "content-length") (lines_of h))

-- whether the connection closes after the request (RFC 9112, section 9.3; that a request of version 1.0 always closes is
-- this project's own)
abbrev pub closes : RequestHead → Bool
closes h = h.minor == 0 || asks_to_close (lines_of h)

-- what reading a head's text gives
abbrev pub StartOf : List ℕ → Start → Type 0
StartOf text (start.Asks s) = (h : RequestHead) × IsHead text h × (refusal h ≡ None) × (s.method ≡ method_of h.method) × (s.target ≡ h.target) × (s.close ≡ closes h) × (s.length ≡ body_length h)
StartOf text (start.Refused fault.Head) = (h : RequestHead) → IsHead text h → ⊥
StartOf text (start.Refused fault.Headers) = ⊥
StartOf text (start.Refused fault.Coding) = (h : RequestHead) × IsHead text h × (refusal h ≡ Some fault.Coding)
StartOf text (start.Refused fault.Length) = (h : RequestHead) × IsHead text h × (refusal h ≡ Some fault.Length)
StartOf text (start.Refused fault.Large) = (h : RequestHead) × IsHead text h × (refusal h ≡ Some fault.Large)
StartOf text (start.Refused fault.NoLength) = (h : RequestHead) × IsHead text h × (refusal h ≡ Some fault.NoLength)
StartOf text start.Memory = Unit {0}

-- where the parts of a whole head are, if there is one
abbrev pub ParsesHead : List ℕ → List HeaderSpan → Option RequestSpans → Type 0
ParsesHead text lines None = (h : RequestHead) → IsHead text h → ⊥
ParsesHead text lines (Some spans) = IsRequestWithin text lines spans × ((h : RequestHead) × IsHead text h × IsRequestAt text lines spans h)

-- what the header lines say of the body
abbrev pub SizeOf : Method → List Line → Result ℕ HeadFault → Type 0
SizeOf m lines (Ok n) = (refusal_of m lines ≡ None) × (n ≡ length_of (values_of (codes "content-length") lines))
SizeOf m lines (Err fault.Head) = ⊥
SizeOf m lines (Err fault.Headers) = ⊥
SizeOf m lines (Err fault.Coding) = refusal_of m lines ≡ Some fault.Coding
SizeOf m lines (Err fault.Length) = refusal_of m lines ≡ Some fault.Length
SizeOf m lines (Err fault.Large) = refusal_of m lines ≡ Some fault.Large
SizeOf m lines (Err fault.NoLength) = refusal_of m lines ≡ Some fault.NoLength
