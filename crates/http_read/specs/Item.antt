-- What stands at the front of a stream of requests (RFC 9112, sections 2.1 and 9.3).
use Rattle.std.specs.Prelude.{◌≡◌, ℕ, ◌+◌, ◌<◌, ◌≤◌, ◌⊎◌, List, [], ◌++◌, length, Some, None}
use Rattle.httparse.specs.Grammar.{RequestHead}
use Rattle.http_read.specs.Lines.{HasNoMark, IsSpent, HasHead}
use Rattle.http_read.specs.Head.{IsHead, refusal, body_length, method_of, closes}
use Rattle.http_read.specs.declared.request.Method.{Method}
use Rattle.http_read.specs.declared.request.Method.TheVariants as method
use Rattle.http_read.specs.declared.request.HttpRequest.{HttpRequest}
use Rattle.http_read.specs.declared.request.HeadFault.{HeadFault}
use Rattle.http_read.specs.declared.request.HeadFault.TheVariants as fault
use Rattle.http_read.specs.declared.request.Next.{Next}
use Rattle.http_read.specs.declared.request.Next.TheVariants as next

-- a whole head, of at most 64 header lines, stands at the front
pub record BeginsWith (bytes text : List ℕ) (h : RequestHead) : Type 0 where
  pub lines : ℕ
  pub marked : HasHead bytes text lines
  pub few : lines ≤ 64
  pub head : IsHead text h

-- a POST has its body, and that of another request is dropped
abbrev pub kept_body : Method → List ℕ → List ℕ
kept_body method.Get body = []
kept_body method.Post body = body
kept_body method.Other body = []

-- the request with this head, whose body has this content
pub record IsRequest (h : RequestHead) (content : List ℕ) (request : HttpRequest) : Type 0 where
  pub method : request.method ≡ method_of h.method
  pub target : request.target ≡ h.target
  pub close : request.close ≡ closes h
  pub body : request.body ≡ kept_body (method_of h.method) content

-- a request stands at the front, and then rest
abbrev pub RequestAt : List ℕ → HttpRequest → List ℕ → Type 0
RequestAt bytes request rest =
    (text : List ℕ) × (h : RequestHead) × (body : List ℕ) × BeginsWith bytes text h × (refusal h ≡ None)
    × (length body ≡ body_length h) × (bytes ≡ text ++ (body ++ rest)) × IsRequest h body request

-- a head that is refused so stands at the front
abbrev pub RefusedAt : List ℕ → HeadFault → Type 0
RefusedAt bytes f = (text : List ℕ) × (h : RequestHead) × BeginsWith bytes text h × (refusal h ≡ Some f)

-- more lines between the request line and the mark's line than are read
abbrev pub HasManyLines : List ℕ → Type 0
HasManyLines bytes = (text : List ℕ) × (lines : ℕ) × HasHead bytes text lines × (64 < lines)

-- what stands before the mark is no head of the grammar
abbrev pub HasBadHead : List ℕ → Type 0
HasBadHead bytes = (text : List ℕ) × (lines : ℕ) × HasHead bytes text lines × (lines ≤ 64) × ((h : RequestHead) → IsHead text h → ⊥)

-- the bytes end inside a head
pub record EndsInHead (bytes : List ℕ) : Type 0 where
  pub some : 0 < length bytes
  pub no_mark : HasNoMark bytes
  pub not_spent : IsSpent bytes → ⊥

-- the bytes end inside a body
abbrev pub EndsInBody : List ℕ → Type 0
EndsInBody bytes = (text : List ℕ) × (h : RequestHead) × BeginsWith bytes text h × (refusal h ≡ None) × (length bytes < length text + body_length h)

-- What stands at the front of the bytes, and of a request the bytes after it. A read that failed and want of memory are
-- no items of the bytes.
abbrev pub Item : List ℕ → Next → List ℕ → Type 0
Item bytes (next.Request request) rest = RequestAt bytes request rest
Item bytes next.End rest = bytes ≡ []
Item bytes (next.Refused fault.Head) rest = HasBadHead bytes
Item bytes (next.Refused fault.Headers) rest = (HasNoMark bytes × IsSpent bytes) ⊎ HasManyLines bytes
Item bytes (next.Refused fault.Coding) rest = RefusedAt bytes fault.Coding
Item bytes (next.Refused fault.Length) rest = RefusedAt bytes fault.Length
Item bytes (next.Refused fault.Large) rest = RefusedAt bytes fault.Large
Item bytes (next.Refused fault.NoLength) rest = RefusedAt bytes fault.NoLength
Item bytes next.CutShort rest = EndsInHead bytes ⊎ EndsInBody bytes
Item bytes next.ReadFault rest = ⊥
Item bytes next.Memory rest = ⊥
