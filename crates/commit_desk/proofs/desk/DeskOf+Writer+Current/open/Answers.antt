use Rattle.std.proofs.Common.{◌≡◌, ◌∙◌, List, [], ap, sym, subst}
use Rattle.std.specs.Arc.{arc_value}
use Rattle.otp_model.specs.Core.{History}
use Rattle.otp_model.specs.declared.timetable.Feed.{Feed}
use Rattle.change_buffer.specs.Commits.{IsCommitted}
use Rattle.change_buffer.specs.declared.feed_state.FeedState.{FeedState}
use Rattle.snapshot_store.specs.declared.snapshot.Snapshot.{Snapshot}
use Rattle.commit_history.specs.Entries.{IsSnapshotOf}
use Rattle.rt_resolve.specs.Indices.{IsIndexOf}
use Rattle.commit_desk.specs.Desks.{IsCounted, state_of}
use Rattle.commit_desk.proofs.CountLemmas.{counted_fresh}
use Rattle.commit_desk.proofs.ScheduleLemmas.{base_stands}
use Rattle.commit_desk.proofs.SlotLemmas.{fresh_is}
use Rattle.commit_desk.proofs.desk.DeskOf+Writer+Current.open.Goals as goal

pub open-requires-clause-base : goal.open-requires-clause-base
open-requires-clause-base g c =
    let built = base_stands c.deref-2.result.now c.in_ok-build.field-0 c.in_ok-build.ensures in
    let feed : c.deref-2.result.now ≡ c.deref-3.result.now = c.deref-2.ensures ∙ sym c.deref-3.ensures in
    let shown : c.in_ok-build.field-0 ≡ arc_value c.in_ok-shown.shown = sym c.in_ok-newest.ensures.ok ∙ sym c.in_ok-shown.ensures in
    subst (λ (s : Snapshot). IsSnapshotOf s c.deref-3.result.now []) shown (subst (λ (f : Feed). IsSnapshotOf c.in_ok-build.field-0 f []) feed built)

pub invariant_of-desk : goal.invariant_of-desk
invariant_of-desk g c =
    let writer = c.in_ok-writer.writer in
    let opened = c.in_ok-writer.ensures.writer in
    let feed : c.deref-2.result.now ≡ arc_value c.args.feed = c.deref-2.ensures in
    let built = base_stands c.deref-2.result.now c.in_ok-build.field-0 c.in_ok-build.ensures in
    let stands = subst (λ (s : Snapshot). IsSnapshotOf s (arc_value c.args.feed) []) (sym c.in_ok-newest.ensures.ok) (subst (λ (f : Feed). IsSnapshotOf c.in_ok-build.field-0 f []) feed built) in
    record {
      sound = c.requires.sound;
      indexed = subst (λ (f : Feed). IsIndexOf f c.in_ok-index.index) c.deref.ensures c.in_ok-index.ensures;
      feed_is = sym (opened.0 ∙ c.deref-3.ensures);
      committed = subst (λ (h : History). IsCommitted c.in_ok-buffer.buffer h) (sym opened.1) c.in_ok-buffer.ensures.committed;
      resolved = c.in_ok-buffer.ensures.resolved (arc_value c.args.feed);
      stands = subst (λ (h : History). IsSnapshotOf (arc_value c.in_ok-newest.newest) (arc_value c.args.feed) h) (sym opened.1) stands;
      counted = subst (λ (h : History). IsCounted c.in_ok-buffer.buffer h) (sym opened.1)
          (subst (λ (states : List FeedState). IsCounted states []) (sym c.in_ok-buffer.ensures.fresh) (counted_fresh c.args.feeds));
    }

pub returns-clause-desk : goal.returns-clause-desk
returns-clause-desk g c =
    let opened = c.in_ok-writer.ensures.writer in (
      opened.0 ∙ c.deref-3.ensures,
      ap (λ (h : History). state_of c.in_ok-buffer.buffer h) opened.1 ∙ (ap (λ (states : List FeedState). state_of states []) c.in_ok-buffer.ensures.fresh ∙ fresh_is c.args.feeds),
    )
