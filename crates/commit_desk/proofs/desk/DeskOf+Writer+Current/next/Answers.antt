use Rattle.std.proofs.Common.{◌∙◌, [], ◌∷◌, ◌++◌, ap, sym, subst}
use Rattle.otp_model.specs.Desk.{pending_in}
use Rattle.snapshot_store.specs.declared.snapshot.Snapshot.{Snapshot}
use Rattle.commit_history.specs.Entries.{IsSnapshotOf}
use Rattle.commit_desk.specs.Desks.{DeskView}
use Rattle.commit_desk.proofs.DeskLemmas.{most_of, stands_of}
use Rattle.commit_desk.proofs.SlotLemmas.{pending_is}
use Rattle.commit_desk.proofs.desk.DeskOf+Writer+Current.next.Goals as goal

pub returns-in_err-snapshot-clause-most : goal.returns-in_err-snapshot-clause-most
returns-in_err-snapshot-clause-most g c =
    let told = c.in_ok-commit.ensures in
    most_of _ _ _ _ _ _ _ _ _ _ _ _ _ c.self.invariant c.self.view_is (record { messages = told.messages; differ = told.changes; schedule = told.schedule })
    c.deref.ensures c.deref-2.ensures c.as_slice.ensures c.requires.pending c.requires.room c.with_changes.ensures.most

pub returns-in_err-new-clause-most : goal.returns-in_err-new-clause-most
returns-in_err-new-clause-most g c =
    let told = c.in_ok-commit.ensures in
    most_of _ _ _ _ _ _ _ _ _ _ _ _ _ c.self.invariant c.self.view_is (record { messages = told.messages; differ = told.changes; schedule = told.schedule })
    c.deref.ensures c.deref-2.ensures c.as_slice.ensures c.requires.pending c.requires.room c.with_changes.ensures.most

pub returns-clause-most : goal.returns-clause-most
returns-clause-most g c =
    let told = c.in_ok-commit.ensures in
    most_of _ _ _ _ _ _ _ _ _ _ _ _ _ c.self.invariant c.self.view_is (record { messages = told.messages; differ = told.changes; schedule = told.schedule })
    c.deref.ensures c.deref-2.ensures c.as_slice.ensures c.requires.pending c.requires.room c.with_changes.ensures.most

pub returns-clause-messages : goal.returns-clause-messages
returns-clause-messages g c = c.in_ok-commit.ensures.messages ∙ pending_is c.self.inside.current.buffer ∙ ap (λ (d : DeskView). pending_in d.state.slots) c.self.view_is

pub returns-clause-stands : goal.returns-clause-stands
returns-clause-stands g c =
    let told = c.in_ok-commit.ensures in
    let commit = c.in_ok-commit.field-0.commit in
    let desk = c.args.self.now in
    let stands = stands_of _ _ _ _ _ _ _ _ c.in_ok-snapshot.snapshot _ _ _ c.self.invariant c.self.view_is (record { messages = told.messages; differ = told.changes; schedule = told.schedule })
    c.deref.ensures c.deref-2.ensures c.as_slice.ensures c.in_ok-snapshot.ensures.stands in
    subst (λ (s : Snapshot). IsSnapshotOf s desk.feed (desk.state.history ++ commit ∷ [])) (sym c.in_ok-new.ensures.ok) stands
