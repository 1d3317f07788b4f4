use Rattle.std.proofs.Common.{◌≡◌, ℕ, ◌-◌, ◌≤◌, OnOk, Result, Ok, Err, Some, length, map, slice_get, slice_set, ap, ◌∙◌, sym, subst, arith}
use Rattle.std.specs.Arc.{arc_value}
use Rattle.std.specs.Option.{option_map}
use Rattle.std.proofs.lemmas.List.{length-map}
use Rattle.otp_model.specs.Desk.{acceptance_by}
use Rattle.otp_model.specs.Resolution.{AreChangesOf}
use Rattle.otp_model.specs.declared.timetable.Feed.{Feed}
use Rattle.commit_desk.specs.Desks.{DeskView, answer_of, slot_of}
use Rattle.change_buffer.specs.Offers.{with_message}
use Rattle.change_buffer.specs.declared.feed_state.FeedState.{FeedState}
use Rattle.change_buffer.specs.declared.offer_fault.OfferFault.{OfferFault}
use Rattle.commit_desk.proofs.CountLemmas.{counted_offer}
use Rattle.commit_desk.proofs.SlotLemmas.{IsOffered, is_offered, there_is}
use Rattle.commit_desk.proofs.desk.DeskOf+Writer+Current.accept.Goals as goal

offered : (c : goal.After-offer) → IsOffered c.self.inside.current.buffer c.offer.new.self c.self.inside.writer.history c.args.feed_no c.args.message c.offer.result
offered c =
    let states = c.self.inside.current.buffer in
    let number = c.args.feed_no in
    let first = c.requires.first in
    let last : number ≤ length (map slot_of states) = subst (λ (d : DeskView). number ≤ length d.state.slots) (sym c.self.view_is) c.requires.last in
    is_offered states c.offer.new.self c.self.inside.writer.history number (number - 1) c.args.message c.args.changes c.offer.result (omega (arith, first)) (omega (arith, first, last, length-map states slot_of))
    c.offer.ensures.answer c.offer.ensures.ok c.offer.ensures.err

pub invariant_of-self : goal.invariant_of-self
invariant_of-self c =
    let own = c.self.inside in
    let states = own.current.buffer in
    let number = c.args.feed_no in
    let first = c.requires.first in
    let last : number ≤ length (map slot_of states) = subst (λ (d : DeskView). number ≤ length d.state.slots) (sym c.self.view_is) c.requires.last in
    let found = there_is states (number - 1) (omega (arith, first, last, length-map states slot_of)) in
    let is = c.self.invariant in
    let told_feed : own.writer.feed ≡ c.args.self.now.feed = ap (λ (d : DeskView). d.feed) c.self.view_is in
    let made = subst (λ (f : Feed). AreChangesOf f c.args.message c.args.changes) (sym (is.feed_is ∙ told_feed)) c.requires.changes in
    record {
      sound = is.sound;
      indexed = is.indexed;
      feed_is = is.feed_is;
      committed = c.offer.ensures.committed own.writer.history is.committed;
      resolved = c.offer.ensures.resolved (arc_value own.current.feed) made is.resolved;
      stands = is.stands;
      counted = counted_offer states c.offer.new.self own.writer.history (number - 1) found.0 c.args.message c.args.changes c.offer.result found.1 (c.offer.ensures.answer found.0 found.1)
          (told found.0 found.1 c.offer.result c.offer.ensures.ok) c.offer.ensures.err is.counted;
    }
  where
    told : (state : FeedState) → slice_get c.self.inside.current.buffer (c.args.feed_no - 1) ≡ Some state → (answer : Result ℕ OfferFault)
        → OnOk answer ((s : FeedState) → slice_get c.self.inside.current.buffer (c.args.feed_no - 1) ≡ Some s → c.offer.new.self ≡ slice_set c.self.inside.current.buffer (c.args.feed_no - 1) (with_message s c.args.message c.args.changes))
        → OnOk answer (c.offer.new.self ≡ slice_set c.self.inside.current.buffer (c.args.feed_no - 1) (with_message state c.args.message c.args.changes))
    told state found (Ok count) all = all state found
    told state found (Err why) all = tt

pub returns-clause-state : goal.returns-clause-state
returns-clause-state c =
    let own = c.self.inside in
    let kept = offered c in
    rw (← c.self.view_is) (λ i. record { feed = own.writer.feed; cell = own.writer.cell; state = kept.state i })

pub returns-clause-answer : goal.returns-clause-answer
returns-clause-answer c =
    subst (λ (d : DeskView). option_map answer_of (acceptance_by c.args.feed_no c.args.message d.state) ≡ Some c.offer.result) c.self.view_is (offered c).answered
