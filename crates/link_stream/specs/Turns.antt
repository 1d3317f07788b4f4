-- What one turn of a connection does.
use Rattle.std.specs.Prelude.{◌≡◌, ℕ, ◌⊎◌, Bool, Option, Some, None, List, ◌++◌}
use Rattle.otp_base.specs.Sink.{AppendsKnown, AppendsFront}
use Rattle.http_read.specs.declared.request.HttpRequest.{HttpRequest}
use Rattle.http_read.specs.declared.request.HeadFault.{HeadFault}
use Rattle.link_stream.specs.Transcript.{RequestFirst, IsOpen, ClosesWith, Writes, bytes_of, EndsBefore}
use Rattle.link_stream.specs.declared.service.Replied.{Replied}
use Rattle.link_stream.specs.declared.stream.StreamEnd.{StreamEnd}
use Rattle.link_stream.specs.declared.stream.StreamEnd.TheVariants as ended
use Rattle.link_stream.specs.declared.stream.Turn.{Turn}
use Rattle.link_stream.specs.declared.stream.Turn.TheVariants as turn

-- the bytes that are held and left, where the source tells what it has left
abbrev pub stream_of : List ℕ → Option (List ℕ) → Option (List ℕ)
stream_of held None = None
stream_of held (Some left) = Some (held ++ left)

-- these bytes were written last, or memory ran out before them
abbrev pub WritesLast : List ℕ → List ℕ → Option (List ℕ) → StreamEnd → Option (List ℕ) → Type 0
WritesLast bytes no_memory before ended.Ended now = AppendsKnown before now bytes
WritesLast bytes no_memory before ended.WriteFault now = AppendsFront before now bytes ⊎ AppendsFront before now no_memory
WritesLast bytes no_memory before ended.Memory now = AppendsKnown before now no_memory
WritesLast bytes no_memory before end now = ⊥

-- a request was served, and its reply written
abbrev pub Answered : List ℕ → {X : Type 0} → (X → HttpRequest → Bool → Replied → X → Type 0) → Bool → HttpRequest → X → Option (List ℕ) → Turn → X → Option (List ℕ) → Type 0
Answered no_memory Step last request before sent turn.Open now sent_now =
    (reply : Replied) × Step before request last reply now × IsOpen reply × AppendsKnown sent sent_now (bytes_of no_memory reply)
Answered no_memory Step last request before sent (turn.Ends end) now sent_now =
    (reply : Replied) × Step before request last reply now × ClosesWith reply end × Writes end sent sent_now (bytes_of no_memory reply)

module _ (refusal : HeadFault → List ℕ) (no_memory : List ℕ) {X : Type 0} (Step : X → HttpRequest → Bool → Replied → X → Type 0) where
  -- The request at the front was served, or the connection ended before it.
  abbrev pub Turns : Bool → Option (List ℕ) → X → Option (List ℕ) → Turn → Option (List ℕ) → Option (List ℕ) → X → Option (List ℕ) → Type 0
  Turns last bytes before sent turn.Open left unread now sent_now =
      (request : HttpRequest) × RequestFirst bytes request left × Answered no_memory Step last request before sent turn.Open now sent_now
  Turns last bytes before sent (turn.Ends end) left unread now sent_now =
      ((request : HttpRequest) × RequestFirst bytes request left × Answered no_memory Step last request before sent (turn.Ends end) now sent_now)
      ⊎ ((now ≡ before) × ((written : List ℕ) × EndsBefore refusal no_memory bytes written end unread × Writes end sent sent_now written))
