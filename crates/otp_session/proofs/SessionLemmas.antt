-- What a session keeps of views, as its pass learns and takes.
use Rattle.std.proofs.Common.{◌≡◌, ℕ, List, [], ◌∷◌, ◌++◌, Option, Some, None, length, drop, refl, sym, ap, subst, lit<, ◌∙◌}
use Rattle.std.specs.Prelude.{nat_le, if◌then◌else◌}
use Rattle.std.specs.Arc.{arc_value}
use Rattle.std.specs.List.{All, Contains}
use Rattle.std.proofs.lemmas.List.Elements.{All-cons, All-contains, All-nil, All-push, All-tail, All-weaker, Contains-append_left}
use mathlib.Core.List.{IsPrefix}
use Rattle.otp_model.proofs.CoreLemmas.{prefix_self, prefix_trans}
use Rattle.otp_model.proofs.JudgedLemmas.{by_test}
use Rattle.otp_model.specs.Core.{Extends, HasSeen, History, keep, keep_known, keep_unless, kept_at, newest}
use Rattle.commit_history.specs.Entries.{IsEntry}
use Rattle.commit_history.specs.Views.{EnteredAt, PassView}
use Rattle.commit_history.specs.declared.pass.View.{View}
use Rattle.pin_ring.specs.Kept.{IsTaken, KeptView}
use Rattle.otp_session.specs.Sessions.{IsNewest, IsSession, KeepsAt, SessionView, TakesAt, session_of}

-- the beginning of the one history that is known
seen_one : (earlier history : History) → IsPrefix earlier history → HasSeen (history ∷ []) earlier
seen_one earlier history begins = (0, history, lit< tt, refl, begins)

seen_in : (known : List History) (history earlier : History) → Extends history known → HasSeen known earlier → IsPrefix earlier history
seen_in known history earlier extends seen =
    prefix_trans earlier seen.1 history seen.4 (All-contains (λ other. IsPrefix other history) known seen.1 extends (seen.0, seen.2, seen.3))

-- once a pass has entered, what was seen is seen
pub seen_entered : (old now : PassView) (history : History) (kept : List History) → EnteredAt old now history → All (HasSeen old.known) kept → All (HasSeen now.known) kept
seen_entered old now history kept at all =
    subst (λ (pass : PassView). All (HasSeen pass.known) kept) (sym at.1)
    (All-weaker (HasSeen old.known) (HasSeen (history ∷ [])) (λ earlier seen. seen_one earlier history (seen_in old.known history earlier at.0 seen)) kept all)

-- once a pass was told of one history more
seen_more : (known : List History) (history earlier : History) → HasSeen known earlier → HasSeen (known ++ history ∷ []) earlier
seen_more known history earlier seen =
    let there = Contains-append_left known (history ∷ []) seen.1 (seen.0, seen.2, seen.3) in
    (there.0, seen.1, there.1, there.2, seen.4)

pub seen_told : (known : List History) (history : History) (kept : List History) → All (HasSeen known) kept → All (HasSeen (known ++ history ∷ [])) kept
seen_told known history kept all = All-weaker (HasSeen known) (HasSeen (known ++ history ∷ [])) (λ earlier seen. seen_more known history earlier seen) kept all

-- the one history that is known begins with each that is kept
pub extends_kept : (known : List History) (history : History) (kept : List History) → known ≡ history ∷ [] → All (HasSeen known) kept → Extends history kept
extends_kept known history kept one all =
    All-weaker (HasSeen (history ∷ [])) (λ earlier. IsPrefix earlier history)
    (λ earlier seen. seen_in (history ∷ []) history earlier (All-cons (λ other. IsPrefix other history) history [] (prefix_self history) (All-nil (λ other. IsPrefix other history))) seen)
    kept (subst (λ known. All (HasSeen known) kept) one all)

all_dropped : (P : History → Type 0) (kept : List History) → All P kept → All P (drop 1 kept)
all_dropped P [] h = h
all_dropped P (history ∷ kept) h = All-tail P history kept h

all_newest : (P : History → Type 0) (kept : List History) → All P kept → All P (newest kept)
all_newest P kept h = by_test (nat_le (length kept) 8) (λ t. rw t h) (λ f. rw f (all_dropped P kept h))

all_keep : (P : History → Type 0) (kept : List History) (history : History) → All P kept → P history → All P (keep kept history)
all_keep P kept history h p = unless (kept_at (length history) kept)
  where
    unless : (there : Option History) → All P (keep_unless there kept history)
    unless (Some earlier) = h
    unless None = all_newest P (kept ++ history ∷ []) (All-push P kept history h p)

-- with the view of the one history that is known, all that is kept is seen
pub seen_keep : (known : List History) (history : History) (kept : List History) → known ≡ history ∷ [] → All (HasSeen known) kept → All (HasSeen known) (keep_known kept known)
seen_keep known history kept one all =
    let seen : HasSeen known history = subst (λ known. HasSeen known history) (sym one) (seen_one history history (prefix_self history)) in
    subst (λ others. All (HasSeen known) (keep_known kept others)) (sym one) (all_keep (HasSeen known) kept history all seen)

-- a session that has taken a view, and then keeps it
pub keeps_at : (old mid now : SessionView) (history : History) → TakesAt old mid history → now ≡ record mid { kept = keep_known mid.kept mid.pass.known } → KeepsAt old now history
keeps_at old mid now history takes same =
    let known : mid.pass.known ≡ history ∷ [] = ap (λ (pass : PassView). pass.known) takes.0.1 in
    let pass : now.pass ≡ mid.pass = ap (λ (session : SessionView). session.pass) same in
    let kept : now.kept ≡ keep_known mid.kept mid.pass.known = ap (λ (session : SessionView). session.kept) same in (
      subst (λ pass. EnteredAt old.pass pass history) (sym pass) takes.0,
      kept ∙ (ap (keep_known mid.kept) known ∙ ap (λ kept. keep kept history) takes.1),
    )

-- ---- a view that is to be kept

module _ (pass : PassView) (ring : KeptView) (view : View) (session : IsSession pass ring) (newest : IsNewest (session_of pass ring) view) where
  pub taken_of : IsTaken ring.feed pass.known ring.kept view
  taken_of =
      subst (λ known. IsTaken ring.feed known ring.kept view) (sym newest.known)
      (subst (λ feed. IsEntry feed newest.history view.number (arc_value view.snapshot)) (sym session.feed) newest.entry, extends_kept pass.known newest.history ring.kept newest.known session.seen)

  pub keep_keeps : (now : KeptView) → now ≡ record ring { kept = keep_known ring.kept pass.known } → IsSession pass now
  keep_keeps now same = subst (IsSession pass) (sym same) (record { feed = session.feed; seen = seen_keep pass.known newest.history ring.kept newest.known session.seen })
