-- What the sessions of a world know once it is closed.
use Rattle.std.specs.Prelude.{◌≡◌, ℕ, ◌<◌, Option, None, List, length, slice_index_or}
use Rattle.commit_history.specs.declared.pass.TakeFault.{TakeFault}
use Rattle.otp_model.specs.Core.{HasSeen, History}
use Rattle.otp_workers.specs.declared.worker.Worker.{Worker}
use Rattle.otp_session.specs.Grounds.{IsAt, Place}
use Rattle.otp_session.specs.Sessions.{LooksAt, SessionView}

module _ {P : Type 0} where
  -- The session has seen the whole published history. Where no meeting was refused it knows one history, which begins with it and
  -- with all that the session knew.
  pub record HasMet (published : History) (refusal : Option TakeFault) (old now : Worker P SessionView) : Type 0 where
    pub port : now.port ≡ old.port
    pub failed : now.failed ≡ old.failed
    pub seen : HasSeen now.seat.pass.known published
    pub met : refusal ≡ None → (history : History) × LooksAt old.seat now.seat published history

  abbrev pub AllMet : History → Option TakeFault → List (Worker P SessionView) → List (Worker P SessionView) → Type 0
  AllMet published refusal old now = (i : ℕ) (d : Worker P SessionView) → i < length old → HasMet published refusal (slice_index_or old i d) (slice_index_or now i d)
