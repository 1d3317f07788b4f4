use Rattle.std.proofs.Common.{◌++◌, ◌∷◌, [], sym, subst}
use Rattle.std.specs.Arc.{arc_value}
use Rattle.commit_history.specs.Entries.{IsSnapshotOf}
use Rattle.commit_history.specs.Views.{WriterView}
use Rattle.otp_model.specs.declared.message.Commit.{Commit}
use Rattle.snapshot_store.specs.declared.snapshot.Snapshot.{Snapshot}
use Rattle.publish_bench.proofs.SilenceLemmas.{silent_more, silent_stands}
use Rattle.publish_bench.specs.Silence.{IsSilent}
use Rattle.publish_bench.proofs.publishing.publish_once.Goals as goal

pub publish-requires-clause-stands : goal.publish-requires-clause-stands
publish-requires-clause-stands g c =
    let commit : Commit = record { messages = c.new.result } in
    let writer = c.args.writer.now in
    let silent = silent_more writer.history commit c.new.ensures c.requires.silent in
    subst (λ (snapshot : Snapshot). IsSnapshotOf snapshot writer.feed (writer.history ++ commit ∷ [])) (sym c.in_ok-shown.ensures)
    (silent_stands writer.feed (writer.history ++ commit ∷ []) (arc_value c.args.snapshot.now) silent c.requires.runs)

pub returns-clause-silent : goal.returns-clause-silent
returns-clause-silent g c =
    let commit : Commit = record { messages = c.new.result } in
    subst (λ (writer : WriterView). IsSilent writer.history) (sym c.in_ok-_note.ensures.ok.0)
    (silent_more c.args.writer.now.history commit c.new.ensures c.requires.silent)
