-- A session whose pass takes a view, learns, or is handed back.
use Rattle.std.proofs.Common.{◌≡◌, ℕ, ◌+◌, ◌-◌, ◌^◌, List, [], ◌∷◌, ◌++◌, length, min, Result, Ok, Err, IfOk, OnOk, refl, sym, ap, subst, ◌∙◌}
use Rattle.std.specs.Arc.{arc_value}
use Rattle.commit_desk.proofs.MeetingLemmas.{meets_at, told_of}
use Rattle.commit_desk.specs.Desks.{MeetsAt}
use Rattle.commit_history.specs.Entries.{IsEntry}
use Rattle.commit_history.specs.Views.{EnteredAt, PassView}
use Rattle.commit_history.specs.declared.pass.TakeFault.{TakeFault}
use Rattle.commit_history.specs.declared.pass.TakeFault.TheVariants as fault
use Rattle.commit_history.specs.declared.pass.View.{View}
use Rattle.otp_model.specs.Core.{HasSeen, History}
use Rattle.pin_ring.specs.Kept.{KeptView}
use Rattle.otp_session.specs.Sessions.{IsNewest, IsSession, LooksAt, SessionView, TakesAt, handed_back, session_of, told}
use Rattle.otp_session.proofs.SessionLemmas.{seen_entered, seen_told}

-- the pass of which the reader was handed back
abbrev pub turned_of : PassView → PassView
turned_of pass = record pass { turned = min (pass.turned + 1) (2 ^ 64 - 1) }

-- what a taking says of the pass
abbrev pub Took : PassView → PassView → Result View TakeFault → Type 0
Took old now result = IfOk result (λ view. (history : History) × EnteredAt old now history × IsEntry old.feed history view.number (arc_value view.snapshot))

abbrev pub Back : PassView → PassView → Result View TakeFault → Type 0
Back old now result = result ≡ Err fault.Turned → now ≡ turned_of old

abbrev pub Spent : PassView → PassView → Result View TakeFault → Type 0
Spent old now result = result ≡ Err fault.Memory → (history : History) × EnteredAt old now history

module _ (ring : KeptView) where
  pub session_entered : (old now : PassView) (history : History) → EnteredAt old now history → IsSession old ring → IsSession now ring
  session_entered old now history at session = record {
    feed = session.feed ∙ sym (ap (λ (pass : PassView). pass.feed) at.1);
    seen = seen_entered old now history ring.kept at session.seen;
  }

  session_back : (old now : PassView) → now ≡ turned_of old → IsSession old ring → IsSession now ring
  session_back old now back session = subst (λ pass. IsSession pass ring) (sym back) (record { feed = session.feed; seen = session.seen })

  pub session_told : (old now : PassView) (published : History) → now ≡ told_of old published → IsSession old ring → IsSession now ring
  session_told old now published same session =
      subst (λ pass. IsSession pass ring) (sym same) (record { feed = session.feed; seen = seen_told old.known published ring.kept session.seen })

  pub take_keeps : (old now : PassView) (result : Result View TakeFault) → Took old now result → Back old now result → Spent old now result → IsSession old ring → IsSession now ring
  take_keeps old now (Ok view) took back spent session = session_entered old now took.0 took.1 session
  take_keeps old now (Err fault.Turned) took back spent session = session_back old now (back refl) session
  take_keeps old now (Err fault.Memory) took back spent session = let entered = spent refl in session_entered old now entered.0 entered.1 session

  pub take_ok : (old now : PassView) (result : Result View TakeFault) → Took old now result
      → IfOk result (λ view. (history : History) × TakesAt (session_of old ring) (session_of now ring) history × IsNewest (session_of now ring) view)
  take_ok old now (Ok view) took = (
    took.0,
    (took.1, refl),
    record {
      history = took.0;
      known = ap (λ (pass : PassView). pass.known) took.1.1;
      entry = subst (λ feed. IsEntry feed took.0 view.number (arc_value view.snapshot)) (sym (ap (λ (pass : PassView). pass.feed) took.1.1)) took.2;
    },
  )
  take_ok old now (Err why) took = tt

  -- once the pass was told
  pub looked : (old mid now : PassView) (published history : History) → mid ≡ told_of old published → EnteredAt mid now history
      → LooksAt (session_of old ring) (session_of now ring) published history
  looked old mid now published history same at = (meets_at old now published history (subst (λ pass. EnteredAt pass now history) same at), refl)

  pub looked_back : (old mid now : PassView) (published : History) → mid ≡ told_of old published → now ≡ turned_of mid
      → session_of now ring ≡ handed_back (told (session_of old ring) published)
  looked_back old mid now published same back = ap (λ pass. session_of pass ring) (back ∙ ap turned_of same)

  -- a meeting
  pub meet_keeps : {X : Type 0} (old now : PassView) (published : History) (result : Result X TakeFault) → OnOk result ((history : History) × MeetsAt old now published history)
      → (result ≡ Err fault.Turned → now ≡ turned_of (told_of old published)) → (result ≡ Err fault.Memory → (history : History) × MeetsAt old now published history)
      → IsSession old ring → IsSession now ring
  meet_keeps old now published (Ok x) ok back memory session = session_entered old now ok.0 ok.1.1 session
  meet_keeps old now published (Err fault.Turned) ok back memory session = session_back (told_of old published) now (back refl) (session_told old (told_of old published) published refl session)
  meet_keeps old now published (Err fault.Memory) ok back memory session = let met = memory refl in session_entered old now met.0 met.1.1 session

  pub met_ok : {X : Type 0} (old now : PassView) (published : History) (result : Result X TakeFault) → OnOk result ((history : History) × MeetsAt old now published history)
      → OnOk result ((history : History) × LooksAt (session_of old ring) (session_of now ring) published history)
  met_ok old now published (Ok x) ok = (ok.0, (ok.1, refl))
  met_ok old now published (Err why) ok = tt
