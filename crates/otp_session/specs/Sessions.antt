-- What contracts see of a session: what its pass knows, and the histories whose views it keeps for pinned pages.
use Rattle.std.specs.Prelude.{◌≡◌, ◌≢◌, ◌+◌, ◌-◌, ◌^◌, ◌⊎◌, List, [], ◌∷◌, ◌++◌, length, min}
use Rattle.std.specs.Arc.{arc_value}
use Rattle.std.specs.List.{All}
use Rattle.commit_desk.specs.Desks.{MeetsAt}
use Rattle.commit_history.specs.Entries.{IsEntry}
use Rattle.commit_history.specs.Views.{EnteredAt, PassView}
use Rattle.commit_history.specs.declared.pass.View.{View}
use Rattle.otp_model.specs.Core.{HasSeen, History, keep}
use Rattle.otp_model.specs.declared.timetable.Feed.{Feed}
use Rattle.pin_ring.specs.Kept.{KeptView}

pub record SessionView : Type 0 where
  pub pass : PassView
  pub kept : List History

abbrev pub session_of : PassView → KeptView → SessionView
session_of pass ring = record { pass = pass; kept = ring.kept }

-- the views are of the pass's feed, and each stands for the beginning of a history that the pass knows
pub record IsSession (pass : PassView) (ring : KeptView) : Type 0 where
  pub feed : ring.feed ≡ pass.feed
  pub seen : All (HasSeen pass.known) ring.kept

-- a session that keeps no view
abbrev pub fresh_session : PassView → SessionView
fresh_session pass = record { pass = pass; kept = [] }

-- a session at the start of a connection
abbrev pub opened : SessionView → SessionView
opened session = record session { kept = [] }

-- the pass's reader was handed back
abbrev pub handed_back : SessionView → SessionView
handed_back session = record session { pass = record session.pass { turned = min (session.pass.turned + 1) (2 ^ 64 - 1) } }

-- the pass was told of a history
abbrev pub told : SessionView → History → SessionView
told session history = record session { pass = record session.pass { known = session.pass.known ++ history ∷ [] } }

-- the session has taken a view of this history, which begins with all that it knew, and knows it alone
abbrev pub TakesAt : SessionView → SessionView → History → Type 0
TakesAt old now history = EnteredAt old.pass now.pass history × (now.kept ≡ old.kept)

-- and keeps that view
abbrev pub KeepsAt : SessionView → SessionView → History → Type 0
KeepsAt old now history = EnteredAt old.pass now.pass history × (now.kept ≡ keep old.kept history)

-- the session has taken a view of a history that begins with the published one
abbrev pub LooksAt : SessionView → SessionView → History → History → Type 0
LooksAt old now published history = MeetsAt old.pass now.pass published history × (now.kept ≡ old.kept)

-- the view is that of the history which the session took last
pub record IsNewest (session : SessionView) (view : View) : Type 0 where
  pub history : History
  pub known : session.pass.known ≡ history ∷ []
  pub entry : IsEntry session.pass.feed history view.number (arc_value view.snapshot)

-- the pass is of the same feed and the same published cell
pub record StaysAt (old now : SessionView) : Type 0 where
  pub feed : now.pass.feed ≡ old.pass.feed
  pub cell : now.pass.cell ≡ old.pass.cell

-- What want of memory, or a reader that is handed back, may leave of a session that answers from its own views: it is as
-- before, its reader was handed back, or it has taken a view, and may keep it.
abbrev pub HasGivenUp : SessionView → SessionView → Type 0
HasGivenUp old now =
    (now ≡ old) ⊎ ((now ≡ handed_back old) ⊎ ((history : History) × (TakesAt old now history ⊎ KeepsAt old now history)))
