-- What a pass knows after a meeting.
use Rattle.std.proofs.Common.{◌≡◌, ℕ, List, [], ◌∷◌, ◌++◌, take, length, refl, sym, subst, lit<}
use Rattle.std.specs.Prelude.{Result, Err}
use Rattle.std.proofs.lemmas.List.Elements.{All-contains, All-same, All-take, Contains-push}
use Rattle.std.proofs.Math.Seq.{take-append_seam}
use mathlib.Core.List.{IsPrefix}
use Rattle.otp_model.proofs.CoreLemmas.{prefix_self}
use Rattle.otp_model.specs.Core.{Extends, HasSeen, History}
use Rattle.commit_history.specs.Views.{EnteredAt, PassView}
use Rattle.commit_history.specs.declared.pass.TakeFault.{TakeFault}
use Rattle.commit_history.specs.declared.pass.TakeFault.TheVariants.{Memory, Turned}
use Rattle.commit_history.specs.declared.pass.View.{View}
use Rattle.commit_desk.specs.Desks.{MeetsAt}

-- the pass after it was told of a history
abbrev pub told_of : PassView → History → PassView
told_of pass history = record pass { known = pass.known ++ history ∷ [] }

pub seen_told : (pass : PassView) (history : History) → HasSeen (told_of pass history).known history
seen_told pass history = let there = Contains-push pass.known history in (there.0, history, there.1, there.2, prefix_self history)

extends_left : (history : History) (known more : List History) → Extends history (known ++ more) → Extends history known
extends_left history known more h =
    All-same (λ earlier. IsPrefix earlier history) known (take (length known) (known ++ more)) (sym (take-append_seam known more)) (All-take (λ earlier. IsPrefix earlier history) (length known) (known ++ more) h)

-- a pass that enters after it was told
pub meets_at : (old new : PassView) (published history : History) → EnteredAt (told_of old published) new history → MeetsAt old new published history
meets_at old new published history at = (
  All-contains (λ earlier. IsPrefix earlier history) (old.known ++ published ∷ []) published at.0 (Contains-push old.known published),
  (extends_left history old.known (published ∷ []) at.0, at.1),
)

pub seen_met : (old new : PassView) (published history : History) → MeetsAt old new published history → HasSeen new.known published
seen_met old new published history meets =
    subst (λ (pass : PassView). HasSeen pass.known published) (sym meets.1.1) (0, history, lit< tt, refl, meets.0)

-- the ways in which a taking is refused
abbrev pub refused : TakeFault → Result View TakeFault
refused why = Err why

-- after a refusal the pass has seen what it was told of
pub seen_refused : (why : TakeFault) (old new : PassView) (turned : ℕ) (published : History)
    → ((refused why ≡ refused Turned) → new ≡ record (told_of old published) { turned = turned })
    → ((refused why ≡ refused Memory) → (history : History) × EnteredAt (told_of old published) new history) → HasSeen new.known published
seen_refused Turned old new turned published back memory = subst (λ (pass : PassView). HasSeen pass.known published) (sym (back refl)) (seen_told old published)
seen_refused Memory old new turned published back memory =
    let entered = memory refl in
    seen_met old new published entered.0 (meets_at old new published entered.0 entered.1)
