-- A connection, turn by turn.
use Rattle.std.proofs.Common.{◌≡◌, ℕ, ◌+◌, ◌<◌, inl, inr, Bool, refl, sym, subst, ◌∙◌, List, [], ◌∷◌, ◌++◌, Option, Some, None, append_assoc}
use Rattle.std.proofs.lemmas.List.{append-nil}
use Rattle.http_read.specs.Held.{Answers}
use Rattle.http_read.specs.declared.request.HttpRequest.{HttpRequest}
use Rattle.http_read.specs.declared.request.HeadFault.{HeadFault}
use Rattle.http_read.specs.declared.request.Next.TheVariants as next
use Rattle.link_stream.specs.declared.service.Replied.{Replied}
use Rattle.link_stream.specs.declared.stream.StreamEnd.{StreamEnd}
use Rattle.link_stream.specs.declared.stream.StreamEnd.TheVariants as ended
use Rattle.link_stream.specs.declared.stream.Turn.TheVariants as turn
use Rattle.link_stream.specs.Transcript.{Transcript, AtFront, UnfinishedBut, EndsBefore, Writes, is_last, bytes_of, bytes_of_all}
use Rattle.link_stream.specs.Turns.{Turns, WritesLast, stream_of}
use Rattle.link_stream.proofs.WriteLemmas.{appends_nothing, writes_both}

pub front_refused : (left after : Option (List ℕ)) (before now : List ℕ) (fault : HeadFault) → Answers left before after now (next.Refused fault) → AtFront (stream_of before left) (next.Refused fault)
front_refused None after before now fault answers = tt
front_refused (Some left) None before now fault answers = absurd answers
front_refused (Some left) (Some after) before now fault answers = answers

pub front_unfinished : (left after : Option (List ℕ)) (before now : List ℕ) → Answers left before after now next.ReadFault → UnfinishedBut (stream_of before left) after
front_unfinished None None before now answers = tt
front_unfinished None (Some after) before now answers = answers
front_unfinished (Some left) None before now answers = answers
front_unfinished (Some left) (Some after) before now answers = answers

module _ (refusal : HeadFault → List ℕ) (no_memory : List ℕ) where
  -- a connection that ends with a head that is refused
  pub ends_refused : (bytes unread : Option (List ℕ)) (fault : HeadFault) (sent sent_now : Option (List ℕ)) (end : StreamEnd) → AtFront bytes (next.Refused fault) → WritesLast (refusal fault) no_memory sent end sent_now
      → (written : List ℕ) × EndsBefore refusal no_memory bytes written end unread × Writes end sent sent_now written
  ends_refused bytes unread fault sent sent_now ended.Ended front wrote = (refusal fault, inr (fault, front, refl), wrote)
  ends_refused bytes unread fault sent sent_now ended.CutShort front wrote = absurd wrote
  ends_refused bytes unread fault sent sent_now ended.ReadFault front wrote = absurd wrote
  ends_refused bytes unread fault sent sent_now ended.WriteFault front (inl wrote) = (refusal fault, inr (fault, front, refl), wrote)
  ends_refused bytes unread fault sent sent_now ended.WriteFault front (inr wrote) = (no_memory, inl refl, wrote)
  ends_refused bytes unread fault sent sent_now ended.Spent front wrote = absurd wrote
  ends_refused bytes unread fault sent sent_now ended.Memory front wrote = (no_memory, refl, wrote)

  -- a connection that ends with want of memory
  pub ends_memory : (bytes unread : Option (List ℕ)) (sent sent_now : Option (List ℕ)) (end : StreamEnd) → WritesLast no_memory no_memory sent end sent_now → (end ≡ ended.Ended → ⊥)
      → (written : List ℕ) × EndsBefore refusal no_memory bytes written end unread × Writes end sent sent_now written
  ends_memory bytes unread sent sent_now ended.Ended wrote other = absurd (other refl)
  ends_memory bytes unread sent sent_now ended.CutShort wrote other = absurd wrote
  ends_memory bytes unread sent sent_now ended.ReadFault wrote other = absurd wrote
  ends_memory bytes unread sent sent_now ended.WriteFault (inl wrote) other = (no_memory, inl refl, wrote)
  ends_memory bytes unread sent sent_now ended.WriteFault (inr wrote) other = (no_memory, inl refl, wrote)
  ends_memory bytes unread sent sent_now ended.Spent wrote other = absurd wrote
  ends_memory bytes unread sent sent_now ended.Memory wrote other = (no_memory, refl, wrote)

module _ (refusal : HeadFault → List ℕ) (no_memory : List ℕ) {X : Type 0} (Step : X → HttpRequest → Bool → Replied → X → Type 0) where
  -- a turn that leaves the connection open, before the rest of it
  pub goes_on : (number : ℕ) (bytes left unread : Option (List ℕ)) (before between : X) (sent sent_between : Option (List ℕ)) → number < 1000000
      → Turns refusal no_memory Step (is_last number) bytes before sent turn.Open left unread between sent_between
      → (end : StreamEnd) (unread_then : Option (List ℕ)) (now : X) (sent_now : Option (List ℕ))
      → Transcript refusal no_memory Step (number + 1) left between sent_between end unread_then now sent_now
      → Transcript refusal no_memory Step number bytes before sent end unread_then now sent_now
  goes_on number bytes left unread before between sent sent_between few (request, first, (reply, step, open_, wrote)) end unread_then now sent_now later = record {
    exchanges = (record { request = request; reply = reply }) ∷ later.exchanges;
    rest = later.rest;
    last = later.last;
    run = (left, between, first, step, later.run);
    ends = (few, inl (open_, later.ends));
    written = subst (Writes end sent sent_now) (sym (append_assoc (bytes_of no_memory reply) (bytes_of_all no_memory later.exchanges) later.last))
        (writes_both end sent sent_between sent_now (bytes_of no_memory reply) (bytes_of_all no_memory later.exchanges ++ later.last) wrote later.written);
  }

  -- the last turn
  pub ends_here : (number : ℕ) (bytes left unread : Option (List ℕ)) (before now : X) (sent sent_now : Option (List ℕ)) (end : StreamEnd) → number < 1000000
      → Turns refusal no_memory Step (is_last number) bytes before sent (turn.Ends end) left unread now sent_now
      → Transcript refusal no_memory Step number bytes before sent end unread now sent_now
  ends_here number bytes left unread before now sent sent_now end few (inl (request, first, (reply, step, closes, wrote))) = record {
    exchanges = (record { request = request; reply = reply }) ∷ [];
    rest = left;
    last = [];
    run = (left, now, first, step, (refl, refl));
    ends = (few, inr (closes, refl, refl));
    written = subst (Writes end sent sent_now) (sym (append-nil (bytes_of no_memory reply ++ []) ∙ append-nil (bytes_of no_memory reply))) wrote;
  }
  ends_here number bytes left unread before now sent sent_now end few (inr (same, (written, how, wrote))) = record {
    exchanges = [];
    rest = bytes;
    last = written;
    run = (refl, same);
    ends = inl (few, how);
    written = wrote;
  }

  -- no turn is left
  pub is_spent : (bytes unread : Option (List ℕ)) (state : X) (sent : Option (List ℕ)) → Transcript refusal no_memory Step 1000000 bytes state sent ended.Spent unread state sent
  is_spent bytes unread state sent = record {
    exchanges = [];
    rest = bytes;
    last = [];
    run = (refl, refl);
    ends = inr (refl, refl, refl);
    written = appends_nothing sent;
  }
