use Rattle.commit_history.proofs.KeepingLemmas.{admits, forks, informs}
use Rattle.commit_history.proofs.writer.WriterOf+CellWriter+Commits.pass.Goals as goal

pub reader-requires : goal.reader-requires
reader-requires c = admits

pub tell-requires : goal.tell-requires
tell-requires c = forks _ _

pub learn-requires-clause-rule : goal.learn-requires-clause-rule
learn-requires-clause-rule c = informs _ _ _ _
