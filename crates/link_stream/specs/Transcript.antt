-- What a whole connection is, for any way of serving a request (RFC 9112, sections 9.3 to 9.6).
--
-- The bytes of a connection are told or not, as its source tells what it has left or doesn't. That a call serves at most
-- 1,000,000 requests is this project's own.
use Rattle.std.specs.Prelude.{◌≡◌, ℕ, ◌+◌, ◌<◌, ◌==◌, ◌⊎◌, Bool, true, false, Option, Some, None, List, [], ◌∷◌, ◌++◌}
use Rattle.otp_base.specs.Sink.{AppendsKnown, AppendsFront}
use Rattle.http_read.specs.Item.{Item}
use Rattle.http_read.specs.Held.{IsUnfinished}
use Rattle.http_read.specs.declared.request.HttpRequest.{HttpRequest}
use Rattle.http_read.specs.declared.request.HeadFault.{HeadFault}
use Rattle.http_read.specs.declared.request.Next.{Next}
use Rattle.http_read.specs.declared.request.Next.TheVariants as next
use Rattle.link_stream.specs.declared.service.Replied.{Replied}
use Rattle.link_stream.specs.declared.service.Replied.TheVariants as replied
use Rattle.link_stream.specs.declared.stream.StreamEnd.{StreamEnd}
use Rattle.link_stream.specs.declared.stream.StreamEnd.TheVariants as ended

-- a request and its reply
pub record Exchange : Type 0 where
  pub request : HttpRequest
  pub reply : Replied

-- a request stands at the front, and these bytes behind it
abbrev pub RequestFirst : Option (List ℕ) → HttpRequest → Option (List ℕ) → Type 0
RequestFirst None request None = Unit {0}
RequestFirst None request (Some rest) = ⊥
RequestFirst (Some bytes) request None = ⊥
RequestFirst (Some bytes) request (Some rest) = Item bytes (next.Request request) rest

-- something other than a request stands at the front
abbrev pub AtFront : Option (List ℕ) → Next → Type 0
AtFront None item = Unit {0}
AtFront (Some bytes) item = Item bytes item []

-- The bytes but for those that were not read: neither a whole request nor a refused head stands at their front.
abbrev pub UnfinishedBut : Option (List ℕ) → Option (List ℕ) → Type 0
UnfinishedBut None None = Unit {0}
UnfinishedBut None (Some unread) = ⊥
UnfinishedBut (Some bytes) None = ⊥
UnfinishedBut (Some bytes) (Some unread) = (read : List ℕ) × (bytes ≡ read ++ unread) × IsUnfinished read

-- whether the request with this number, counted from 0, is the last of a call
abbrev pub is_last : ℕ → Bool
is_last number = number + 1 == 1000000

-- the connection is open after a reply
abbrev pub IsOpen : Replied → Type 0
IsOpen (replied.Bytes bytes closes) = closes ≡ false
IsOpen replied.Memory = ⊥

-- a connection ends so with a reply
abbrev pub ClosesWith : Replied → StreamEnd → Type 0
ClosesWith (replied.Bytes bytes closes) ended.Ended = closes ≡ true
ClosesWith (replied.Bytes bytes closes) ended.WriteFault = Unit {0}
ClosesWith replied.Memory ended.Memory = Unit {0}
ClosesWith replied.Memory ended.WriteFault = Unit {0}
ClosesWith reply end = ⊥

-- all of these bytes were written, or a front of them where a write failed
abbrev pub Writes : StreamEnd → Option (List ℕ) → Option (List ℕ) → List ℕ → Type 0
Writes ended.WriteFault before now bytes = AppendsFront before now bytes
Writes end before now bytes = AppendsKnown before now bytes

-- a service's relation, over the shared state and the session as one
abbrev pub step_of : {D S : Type 0} → (HttpRequest → Bool → Replied → D → S → D → S → Type 0) → D × S → HttpRequest → Bool → Replied → D × S → Type 0
step_of answers before request last reply now = answers request last reply before.0 before.1 now.0 now.1

module _ (no_memory : List ℕ) where
  -- the bytes of a reply
  abbrev pub bytes_of : Replied → List ℕ
  bytes_of (replied.Bytes bytes closes) = bytes
  bytes_of replied.Memory = no_memory

  -- the bytes of all replies
  abbrev pub bytes_of_all : List Exchange → List ℕ
  bytes_of_all [] = []
  bytes_of_all (exchange ∷ exchanges) = bytes_of exchange.reply ++ bytes_of_all exchanges

module _ {X : Type 0} (Step : X → HttpRequest → Bool → Replied → X → Type 0) where
  -- The requests stand at the front of the bytes, one after the other, and each was served from the state that the one
  -- before it left. The first has this number.
  abbrev pub Run : ℕ → Option (List ℕ) → X → List Exchange → Option (List ℕ) → X → Type 0
  Run number bytes before [] rest now = (rest ≡ bytes) × (now ≡ before)
  Run number bytes before (exchange ∷ exchanges) rest now =
      (left : Option (List ℕ)) × (between : X) × RequestFirst bytes exchange.request left
      × Step before exchange.request (is_last number) exchange.reply between × Run (number + 1) left between exchanges rest now

module _ (refusal : HeadFault → List ℕ) (no_memory : List ℕ) where
  -- A connection ends so before a request, with these bytes written last; of the bytes behind the last request some were
  -- not read.
  abbrev pub EndsBefore : Option (List ℕ) → List ℕ → StreamEnd → Option (List ℕ) → Type 0
  EndsBefore bytes written ended.Ended unread =
      (AtFront bytes next.End × (written ≡ []))
      ⊎ ((fault : HeadFault) × AtFront bytes (next.Refused fault) × (written ≡ refusal fault))
  EndsBefore bytes written ended.CutShort unread = AtFront bytes next.CutShort × (written ≡ [])
  EndsBefore bytes written ended.ReadFault unread = UnfinishedBut bytes unread × (written ≡ [])
  EndsBefore bytes written ended.WriteFault unread =
      (written ≡ no_memory) ⊎ ((fault : HeadFault) × AtFront bytes (next.Refused fault) × (written ≡ refusal fault))
  EndsBefore bytes written ended.Spent unread = ⊥
  EndsBefore bytes written ended.Memory unread = written ≡ no_memory

  -- The connection is open after each reply but the last, of which the first has this number, and then ends so.
  abbrev pub EndsAfter : ℕ → List Exchange → Option (List ℕ) → List ℕ → StreamEnd → Option (List ℕ) → Type 0
  EndsAfter number [] bytes written end unread =
      ((number < 1000000) × EndsBefore bytes written end unread)
      ⊎ ((number ≡ 1000000) × (end ≡ ended.Spent) × (written ≡ []))
  EndsAfter number (exchange ∷ exchanges) bytes written end unread =
      (number < 1000000)
      × ((IsOpen exchange.reply × EndsAfter (number + 1) exchanges bytes written end unread)
      ⊎ (ClosesWith exchange.reply end × (exchanges ≡ []) × (written ≡ [])))

  module _ {X : Type 0} (Step : X → HttpRequest → Bool → Replied → X → Type 0) where
    -- A connection, from a request of this number on: from the bytes, the state and what was written before to its end, the
    -- bytes that were not read, the state and what was written then.
    pub record Transcript (number : ℕ) (bytes : Option (List ℕ)) (before : X) (sent : Option (List ℕ)) (end : StreamEnd) (unread : Option (List ℕ)) (now : X) (sent_now : Option (List ℕ)) : Type 0 where
      pub exchanges : List Exchange
      pub rest : Option (List ℕ)
      pub last : List ℕ
      pub run : Run Step number bytes before exchanges rest now
      pub ends : EndsAfter number exchanges rest last end unread
      pub written : Writes end sent sent_now (bytes_of_all no_memory exchanges ++ last)
