-- What holds of each request holds of a whole connection.
use Rattle.std.proofs.Common.{◌≡◌, ap, ℕ, ◌+◌, List, [], ◌∷◌, Option, Bool}
use Rattle.http_read.specs.declared.request.HttpRequest.{HttpRequest}
use Rattle.http_read.specs.declared.request.HeadFault.{HeadFault}
use Rattle.link_stream.specs.declared.service.Replied.{Replied}
use Rattle.link_stream.specs.declared.stream.StreamEnd.{StreamEnd}
use Rattle.link_stream.specs.Transcript.{Exchange, Run, Transcript, is_last}

module _ {X : Type 0} (Step : X → HttpRequest → Bool → Replied → X → Type 0)
    (Keeps : X → X → Type 0)
    (same : (x y : X) → y ≡ x → Keeps x y)
    (both : (x y z : X) → Keeps x y → Keeps y z → Keeps x z)
    (each : (x : X) (request : HttpRequest) (last : Bool) (reply : Replied) (y : X) → Step x request last reply y → Keeps x y) where
  -- what each request keeps of the state, all of them keep
  pub run_keeps : (number : ℕ) (bytes : Option (List ℕ)) (x : X) (exchanges : List Exchange) (rest : Option (List ℕ)) (y : X) → Run Step number bytes x exchanges rest y → Keeps x y
  run_keeps number bytes x [] rest y run = same x y run.1
  run_keeps number bytes x (exchange ∷ exchanges) rest y (left, z, first, step, run) =
      both x z y (each x exchange.request (is_last number) exchange.reply z step) (run_keeps (number + 1) left z exchanges rest y run)

module _ {X Y : Type 0} (Step : X → HttpRequest → Bool → Replied → X → Type 0) (View : Y → HttpRequest → Bool → Replied → Y → Type 0)
    (view : X → Y)
    (each : (x : X) (request : HttpRequest) (last : Bool) (reply : Replied) (y : X) → Step x request last reply y → View (view x) request last reply (view y)) where
  run_maps : (number : ℕ) (bytes : Option (List ℕ)) (x : X) (exchanges : List Exchange) (rest : Option (List ℕ)) (y : X) → Run Step number bytes x exchanges rest y → Run View number bytes (view x) exchanges rest (view y)
  run_maps number bytes x [] rest y run = (run.0, ap view run.1)
  run_maps number bytes x (exchange ∷ exchanges) rest y (left, z, first, step, run) =
      (left, view z, first, each x exchange.request (is_last number) exchange.reply z step, run_maps (number + 1) left z exchanges rest y run)

  -- a connection over states is one over what is seen of them
  pub transcript_maps : (refusal : HeadFault → List ℕ) (no_memory : List ℕ) (number : ℕ) (bytes : Option (List ℕ)) (x : X) (sent : Option (List ℕ)) (end : StreamEnd) (unread : Option (List ℕ)) (y : X) (sent_now : Option (List ℕ))
      → Transcript refusal no_memory Step number bytes x sent end unread y sent_now
      → Transcript refusal no_memory View number bytes (view x) sent end unread (view y) sent_now
  transcript_maps refusal no_memory number bytes x sent end unread y sent_now whole = record {
    exchanges = whole.exchanges;
    rest = whole.rest;
    last = whole.last;
    run = run_maps number bytes x whole.exchanges whole.rest y whole.run;
    ends = whole.ends;
    written = whole.written;
  }
