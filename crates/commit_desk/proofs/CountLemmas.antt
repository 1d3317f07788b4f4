-- The counts of a desk stay within their bounds.
use Rattle.std.proofs.Common.{◌≡◌, ◌+◌, ℕ, zero, suc, ◌<◌, ◌≤◌, ◌^◌, true, false, nat_le, List, [], ◌∷◌, ◌++◌, length, map, replicate, slice_get, slice_set, Option, Some, None, Result, Ok, Err, OnOk, OnErr, refl, sym, ap, subst, ◌∙◌, arith}
use Rattle.std.specs.List.{All, list_any}
use Rattle.std.proofs.lemmas.Bool.Decides.{nat_tests}
use Rattle.std.proofs.lemmas.List.{length-append}
use Rattle.std.proofs.lemmas.List.Elements.{All-cons, All-head, All-nil, All-tail}
use Rattle.otp_model.proofs.JudgedLemmas.{by_test}
use Rattle.otp_model.specs.Core.{History}
use Rattle.otp_model.specs.declared.message.Commit.{Commit}
use Rattle.otp_model.specs.declared.change.Change.{Change}
use Rattle.otp_model.specs.declared.message.Message.{Message}
use Rattle.change_buffer.specs.Offers as offers
use Rattle.change_buffer.specs.declared.feed_state.FeedState.{FeedState}
use Rattle.change_buffer.specs.declared.offer_fault.OfferFault.{OfferFault}
use Rattle.change_buffer.specs.declared.offer_fault.OfferFault.TheVariants.{CountSpent}
use Rattle.commit_desk.specs.Desks.{IsCounted, accepted_in, pending_one}

abbrev IsFew : FeedState → Type 0
IsFew state = state.accepted ≤ 2 ^ 40

one_most : (states : List FeedState) → pending_one states ≤ 1
one_most states = by_test (list_any offers.is_pending states) (λ t. rw t (omega arith)) (λ f. rw f (omega arith))

-- ---- nothing is accepted

none_fresh : (count : ℕ) → list_any offers.is_pending (replicate count offers.fresh) ≡ false
none_fresh zero = refl
none_fresh (suc count) = none_fresh count

few_fresh : (count : ℕ) → All IsFew (replicate count offers.fresh)
few_fresh zero = All-nil IsFew
few_fresh (suc count) = All-cons IsFew offers.fresh (replicate count offers.fresh) (omega arith) (few_fresh count)

pub counted_fresh : (count : ℕ) → IsCounted (replicate count offers.fresh) []
counted_fresh count = record {
  counts = few_fresh count;
  few = omega arith;
  enough = rw (none_fresh count) (omega arith);
}

-- ---- an offer

few_set : (states : List FeedState) (place : ℕ) (changed : FeedState) → IsFew changed → All IsFew states → All IsFew (slice_set states place changed)
few_set [] place changed few all = all
few_set (state ∷ states) zero changed few all = All-cons IsFew changed states few (All-tail IsFew state states all)
few_set (state ∷ states) (suc place) changed few all =
    All-cons IsFew state (slice_set states place changed) (All-head IsFew state states all) (few_set states place changed few (All-tail IsFew state states all))

one_more : (states : List FeedState) (place : ℕ) (state changed : FeedState) → slice_get states place ≡ Some state → changed.accepted ≡ state.accepted + 1
    → accepted_in (slice_set states place changed) ≡ accepted_in states + 1
unfolding accepted_in
one_more [] place state changed found more = absurd (let never : ◌≡◌ {A = Option FeedState} None (Some state) = found in cc)
one_more (first ∷ states) zero state changed found more =
    let here : ◌≡◌ {A = Option FeedState} (Some first) (Some state) = found in
    let same : first ≡ state = cc in
    let counts : changed.accepted ≡ first.accepted + 1 = more ∙ ap (λ (s : FeedState). s.accepted + 1) (sym same) in
    omega (arith, counts)
one_more (first ∷ states) (suc place) state changed found more = let rest = one_more states place state changed found more in omega (arith, rest)

below_most : (above : Option ℕ) (accepted count : ℕ) → offers.counted above accepted ≡ Ok count → accepted < 2 ^ 40
below_most (Some have) accepted count e = absurd cc
below_most None accepted count e =
    by_test (nat_le (2 ^ 40) accepted)
    (λ t. absurd (let never : ◌≡◌ {A = Result ℕ OfferFault} (Err CountSpent) (Ok count) = rw t at e in cc))
    (λ f. grind (arith, nat_tests))

pub counted_offer : (states now : List FeedState) (history : History) (place : ℕ) (state : FeedState) (message : Message) (changes : List Change) (answer : Result ℕ OfferFault)
    → slice_get states place ≡ Some state → answer ≡ offers.answer_to state message
    → OnOk answer (now ≡ slice_set states place (offers.with_message state message changes)) → OnErr answer (now ≡ states) → IsCounted states history → IsCounted now history
counted_offer states now history place state message changes (Err why) found told ok err is = subst (λ ss. IsCounted ss history) (sym err) is
counted_offer states now history place state message changes (Ok count) found told ok err is =
    let changed = offers.with_message state message changes in
    let few : state.accepted < 2 ^ 40 = below_most (offers.above_of state.timestamp message.timestamp) state.accepted count (sym told) in
    let more = one_more states place state changed found refl in
    let most = one_most (slice_set states place changed) in
    let enough = is.enough in
    subst (λ ss. IsCounted ss history) (sym ok) (record {
      counts = few_set states place changed (omega (arith, few)) is.counts;
      few = is.few;
      enough = omega (arith, more, most, enough);
    })

-- ---- a commit

none_settled : (states : List FeedState) → list_any offers.is_pending (map offers.settled states) ≡ false
none_settled [] = refl
none_settled (state ∷ states) = none_settled states

few_settled : (states : List FeedState) → All IsFew states → All IsFew (map offers.settled states)
few_settled [] all = All-nil IsFew
few_settled (state ∷ states) all = All-cons IsFew (offers.settled state) (map offers.settled states) (All-head IsFew state states all) (few_settled states (All-tail IsFew state states all))

same_settled : (states : List FeedState) → accepted_in (map offers.settled states) ≡ accepted_in states
unfolding accepted_in
same_settled [] = refl
same_settled (state ∷ states) = ap (λ n. state.accepted + n) (same_settled states)

pub counted_commit : (states : List FeedState) (history : History) (commit : Commit) → list_any offers.is_pending states ≡ true → length history < 2 ^ 40
    → IsCounted states history → IsCounted (map offers.settled states) (history ++ commit ∷ [])
counted_commit states history commit some room is =
    let long = length-append history (commit ∷ []) in
    let same = same_settled states in
    let enough : length history + 1 ≤ accepted_in states = (let e = is.enough in rw some at e) in
    record {
      counts = few_settled states is.counts;
      few = omega (arith, long, room);
      enough = rw (none_settled states) (omega (arith, long, same, enough));
    }
