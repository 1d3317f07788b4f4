use Rattle.std.proofs.Common.{subst, ap, List, [], ◌∷◌, ℕ}
use Rattle.std.specs.Prelude.{◌≡◌, fold, drop}
use Rattle.std.specs.Arc.{arc_value}
use Rattle.logbook.specs.declared.tokens.Seen.{Seen}
use Rattle.otp_model.specs.declared.message.Commit.{Commit}
use Rattle.commit_history.specs.Rules.{Cell, Entry, next_of}
use Rattle.commit_history.specs.declared.log.Growing.{Growing}
use Rattle.commit_history.proofs.KeepingLemmas.{publishes_like}
use Rattle.commit_history.proofs.showing.show.Goals as goal

pub publish_as-requires : goal.publish_as-requires
publish_as-requires g c next is =
    let shown : Cell = c.args.writer.desk.shown.value in
    let cells : List Cell = drop c.args.writer.behind c.args.writer.log.items in
    let last : Cell = next_of shown cells in
    let State = Entry × Seen Commit ℕ Growing in
    let IsAfter : List Cell → Type 0 = λ cs. ◌≡◌ {A = State} (arc_value next.entry, next.seen) (fold (λ (_ : State) (cell : Cell). (arc_value cell.entry, cell.seen)) (arc_value shown.entry, shown.seen) cs) in
    let same : IsAfter (last ∷ []) = subst IsAfter c.requires.pending is in
    publishes_like _ _ shown last next (ap (λ p. p.0) same) (ap (λ p. p.1) same) c.requires.may
