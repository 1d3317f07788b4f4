use Rattle.std.proofs.Common.{rules, ◌≡◌, ◌≢◌, ◌<◌, ◌^◌, true, false, [], ◌∷◌, ◌++◌, length, sym, subst}
use Rattle.std.specs.Arc.{arc_value}
use Rattle.std.specs.List.{list_any}
use Rattle.otp_model.specs.Desk.{commits, pending_in}
use Rattle.change_buffer.specs.Offers.{is_pending}
use Rattle.commit_history.specs.Entries.{IsSnapshotOf}
use Rattle.commit_desk.specs.Desks.{DeskView, desk_of}
use Rattle.commit_desk.specs.Dones.{IsDone}
use Rattle.commit_desk.specs.declared.done.Done.TheVariants.{Committed, Nothing}
use Rattle.commit_desk.proofs.DeskLemmas.{done_committed, done_nothing, still_desk, with_commit}
use Rattle.commit_desk.proofs.SlotLemmas.{some_pending}
use Rattle.commit_desk.proofs.desk.DeskOf+Writer+Current.commit.Goals as goal

pub next-requires-clause-pending : goal.next-requires-clause-pending
next-requires-clause-pending g c =
    let some : list_any is_pending c.self.inside.current.buffer ≡ true = search rules in
    subst (λ (d : DeskView). pending_in d.state.slots ≢ []) c.self.view_is (some_pending c.self.inside.current.buffer some)

pub returns-then-not-pending-clause-ok : goal.returns-then-not-pending-clause-ok
returns-then-not-pending-clause-ok g c =
    let own = c.self.inside in
    let none : list_any is_pending own.current.buffer ≡ false = search rules in
    let done = done_nothing own.writer c.note.new.self own.current.buffer c.number-number.result c.note.result none c.note.ensures.same c.number-number.ensures c.note.ensures.note in
    subst (λ (d : DeskView). (desk_of c.note.new.self own.current.buffer ≡ record d { state = commits d.state }) × IsDone d (desk_of c.note.new.self own.current.buffer) (Nothing c.number-number.result c.note.result)) c.self.view_is done

pub invariant_of-self-2 : goal.invariant_of-self-2
invariant_of-self-2 g c =
    let own = c.self.inside in
    let commit = c.in_ok-commit.field-0.commit in
    let next = arc_value c.in_ok-commit.field-0.snapshot in
    let some : list_any is_pending own.current.buffer ≡ true = search rules in
    let room = subst (λ (d : DeskView). length d.state.history < 2 ^ 40) (sym c.self.view_is) c.requires.room in
    let published : c.publish.new.self ≡ with_commit own.writer commit = search rules in
    let messages = subst (λ (d : DeskView). commit.messages ≡ pending_in d.state.slots) (sym c.self.view_is) c.in_ok-commit.ensures.messages in
    let stands = subst (λ (d : DeskView). IsSnapshotOf next d.feed (d.state.history ++ commit ∷ [])) (sym c.self.view_is) c.in_ok-commit.ensures.stands in
    still_desk (arc_value own.current.feed) own.writer c.publish.new.self own.current.buffer c.settle.new.self own.current.index (arc_value own.current.newest) next commit c.self.invariant published messages c.settle.ensures.committed c.settle.ensures.resolved stands
    c.settle.ensures.settled some room

pub returns-clause-ok : goal.returns-clause-ok
returns-clause-ok g c =
    let own = c.self.inside in
    let commit = c.in_ok-commit.field-0.commit in
    let some : list_any is_pending own.current.buffer ≡ true = search rules in
    let room = subst (λ (d : DeskView). length d.state.history < 2 ^ 40) (sym c.self.view_is) c.requires.room in
    let published : c.publish.new.self ≡ with_commit own.writer commit = search rules in
    let note : c.in_ok-note.note ≡ c.publish.new.self = search rules in
    let messages = subst (λ (d : DeskView). commit.messages ≡ pending_in d.state.slots) (sym c.self.view_is) c.in_ok-commit.ensures.messages in
    let done = done_committed own.writer c.publish.new.self own.current.buffer c.settle.new.self commit c.number.result c.in_ok-note.note (some_pending own.current.buffer some) room messages published c.settle.ensures.settled
    c.number.ensures note in
    subst (λ (d : DeskView). (desk_of c.publish.new.self c.settle.new.self ≡ record d { state = commits d.state }) × IsDone d (desk_of c.publish.new.self c.settle.new.self) (Committed c.number.result c.in_ok-note.note)) c.self.view_is done
