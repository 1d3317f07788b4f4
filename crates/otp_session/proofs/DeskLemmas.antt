-- What offers and commits leave of a desk.
use Rattle.std.proofs.Common.{◌≡◌, ◌≢◌, ℕ, ◌<◌, ◌≤◌, zero, suc, Bool, true, List, [], ◌∷◌, ◌++◌, Option, Some, None, Result, Ok, Err, inl, inr, refl, sym, ap, subst, length, map, arith}
use Rattle.std.specs.Prelude.{nat_lt, if◌then◌else◌, ◌^◌}
use Rattle.std.specs.Option.{option_map}
use Rattle.std.proofs.lemmas.List.{length-map}
use Rattle.change_buffer.specs.declared.offer_fault.OfferFault.{OfferFault}
use Rattle.change_buffer.specs.declared.offer_fault.OfferFault.TheVariants as fault
use Rattle.otp_model.proofs.JudgedLemmas.{by_test}
use Rattle.otp_model.specs.Desk.{Acceptance, Accepted, DeskState, Older, Slot, Spent, accepts, acceptance_by, commits, commits_of, emptied, offered, offered_at, pending_in, published}
use Rattle.otp_model.specs.declared.message.Message.{Message}
use Rattle.otp_model.specs.declared.timetable.Feed.{Feed}
use Rattle.commit_desk.specs.Desks.{DeskView, answer_of, has_pending}
use Rattle.otp_session.specs.Grounds.{Place, place_of}
use Rattle.otp_session.specs.Sessions.{SessionView, fresh_session}
use Rattle.commit_history.specs.Views.{PassView}
use Rattle.std.specs.List.{All}
use Rattle.std.proofs.lemmas.List.Elements.{All-cons, All-head, All-nil, All-tail}

-- ---- how many real-time feeds there are

offered_length : (place : ℕ) (message : Message) (slots : List Slot) → length (offered_at place message slots) ≡ length slots
unfolding offered_at
offered_length place message [] = refl
offered_length zero message (slot ∷ slots) = refl
offered_length (suc place) message (slot ∷ slots) = ap suc (offered_length place message slots)

pub accepts_length : (number : ℕ) (message : Message) (state : DeskState) → length (accepts number message state).slots ≡ length state.slots
accepts_length zero message state = refl
accepts_length (suc place) message state = offered_length place message state.slots

pub accepts_history : (number : ℕ) (message : Message) (state : DeskState) → (accepts number message state).history ≡ state.history
accepts_history zero message state = refl
accepts_history (suc place) message state = refl

pub commits_length : (state : DeskState) → length (commits state).slots ≡ length state.slots
commits_length state = of (pending_in state.slots)
  where
    of : (messages : List (ℕ × Message)) → length (commits_of messages state).slots ≡ length state.slots
    of [] = refl
    of (message ∷ messages) = by_test (nat_lt (length state.history) (2 ^ 40)) (λ t. rw t (length-map state.slots emptied)) (λ f. rw f refl)

-- a desk of which only the state changes stays where it is
pub stays_placed : (desk : DeskView) (state : DeskState) → length state.slots ≡ length desk.state.slots → place_of (record desk { state = state }) ≡ place_of desk
stays_placed desk state same = ap (λ feeds. record { feed = desk.feed; cell = desk.cell; feeds = feeds }) same

pub accepted_stays : (desk now : DeskView) (number : ℕ) (message : Message) → now ≡ record desk { state = accepts number message desk.state } → place_of now ≡ place_of desk
accepted_stays desk now number message same =
    subst (λ (other : DeskView). place_of other ≡ place_of desk) (sym same) (stays_placed desk (accepts number message desk.state) (accepts_length number message desk.state))

pub committed_stays : (desk now : DeskView) → now ≡ record desk { state = commits desk.state } → place_of now ≡ place_of desk
committed_stays desk now same = subst (λ (other : DeskView). place_of other ≡ place_of desk) (sym same) (stays_placed desk (commits desk.state) (commits_length desk.state))

-- ---- what an offer was answered

module _ (asked : Option Acceptance) where
  pub was_accepted : (count : ℕ) → option_map answer_of asked ≡ Some (Ok count) → asked ≡ Some (Accepted count)
  was_accepted count e = of asked e
    where
      of : (asked : Option Acceptance) → option_map answer_of asked ≡ Some (Ok count) → asked ≡ Some (Accepted count)
      of None e = absurd cc
      of (Some (Accepted other)) e = let same : ◌≡◌ {A = Option (Result ℕ OfferFault)} (Some (Ok other)) (Some (Ok count)) = e in let is : other ≡ count = cc in ap (λ n. Some (Accepted n)) is
      of (Some (Older have)) e = absurd (let same : ◌≡◌ {A = Option (Result ℕ OfferFault)} (Some (Err (fault.Older have))) (Some (Ok count)) = e in cc)
      of (Some Spent) e = absurd (let same : ◌≡◌ {A = Option (Result ℕ OfferFault)} (Some (Err fault.CountSpent)) (Some (Ok count)) = e in cc)

  pub was_older : (have : ℕ) → option_map answer_of asked ≡ Some (Err (fault.Older have)) → asked ≡ Some (Older have)
  was_older have e = of asked e
    where
      of : (asked : Option Acceptance) → option_map answer_of asked ≡ Some (Err (fault.Older have)) → asked ≡ Some (Older have)
      of None e = absurd cc
      of (Some (Accepted count)) e = absurd (let same : ◌≡◌ {A = Option (Result ℕ OfferFault)} (Some (Ok count)) (Some (Err (fault.Older have))) = e in cc)
      of (Some (Older other)) e = let same : ◌≡◌ {A = Option (Result ℕ OfferFault)} (Some (Err (fault.Older other))) (Some (Err (fault.Older have))) = e in let is : other ≡ have = cc in ap (λ n. Some (Older n)) is
      of (Some Spent) e = absurd (let same : ◌≡◌ {A = Option (Result ℕ OfferFault)} (Some (Err fault.CountSpent)) (Some (Err (fault.Older have))) = e in cc)

  pub was_spent : option_map answer_of asked ≡ Some (Err fault.CountSpent) → asked ≡ Some Spent
  was_spent e = of asked e
    where
      of : (asked : Option Acceptance) → option_map answer_of asked ≡ Some (Err fault.CountSpent) → asked ≡ Some Spent
      of None e = absurd cc
      of (Some (Accepted count)) e = absurd (let same : ◌≡◌ {A = Option (Result ℕ OfferFault)} (Some (Ok count)) (Some (Err fault.CountSpent)) = e in cc)
      of (Some (Older have)) e = absurd (let same : ◌≡◌ {A = Option (Result ℕ OfferFault)} (Some (Err (fault.Older have))) (Some (Err fault.CountSpent)) = e in cc)
      of (Some Spent) e = refl

  pub was_no_memory : option_map answer_of asked ≡ Some (Err fault.Memory) → ⊥
  was_no_memory e = of asked e
    where
      of : (asked : Option Acceptance) → option_map answer_of asked ≡ Some (Err fault.Memory) → ⊥
      of None e = cc
      of (Some (Accepted count)) e = let same : ◌≡◌ {A = Option (Result ℕ OfferFault)} (Some (Ok count)) (Some (Err fault.Memory)) = e in cc
      of (Some (Older have)) e = let same : ◌≡◌ {A = Option (Result ℕ OfferFault)} (Some (Err (fault.Older have))) (Some (Err fault.Memory)) = e in cc
      of (Some Spent) e = let same : ◌≡◌ {A = Option (Result ℕ OfferFault)} (Some (Err fault.CountSpent)) (Some (Err fault.Memory)) = e in cc

-- whether something was pending
pub some_pending : (messages : List (ℕ × Message)) → messages ≢ [] → true ≡ has_pending messages
some_pending [] h = absurd (h refl)
some_pending (message ∷ messages) h = refl

-- ---- sessions that know nothing yet

fresh_each : (fresh : PassView) (passes : List PassView) → All (λ pass. pass ≡ fresh) passes → All (λ session. session ≡ fresh_session fresh) (map fresh_session passes)
fresh_each fresh [] all = All-nil (λ session. session ≡ fresh_session fresh)
fresh_each fresh (pass ∷ passes) all =
    All-cons (λ session. session ≡ fresh_session fresh) (fresh_session pass) (map fresh_session passes) (ap fresh_session (All-head (λ pass. pass ≡ fresh) pass passes all))
    (fresh_each fresh passes (All-tail (λ pass. pass ≡ fresh) pass passes all))

pub all_fresh : (fresh : PassView) (passes : List PassView) (sessions : List SessionView) → sessions ≡ map fresh_session passes → All (λ pass. pass ≡ fresh) passes
    → All (λ session. session ≡ fresh_session fresh) sessions
all_fresh fresh passes sessions same all = subst (All (λ session. session ≡ fresh_session fresh)) (sym same) (fresh_each fresh passes all)
