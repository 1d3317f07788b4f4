use Rattle.std.proofs.Common.{[], sym, subst}
use Rattle.std.specs.Arc.{arc_value}
use Rattle.commit_history.specs.Entries.{IsSnapshotOf}
use Rattle.snapshot_store.specs.declared.snapshot.Snapshot.{Snapshot}
use Rattle.publish_bench.proofs.SilenceLemmas.{silent_base, silent_stands}
use Rattle.publish_bench.proofs.publishing.open_at.Goals as goal

pub open-requires-clause-base : goal.open-requires-clause-base
open-requires-clause-base g c =
    subst (λ (snapshot : Snapshot). IsSnapshotOf snapshot c.args.feed.now []) (sym c.in_ok-try_clone.ensures)
    (silent_stands c.args.feed.now [] (arc_value c.args.snapshot.now) silent_base c.requires.runs)
