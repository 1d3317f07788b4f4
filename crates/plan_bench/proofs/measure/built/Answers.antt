use Rattle.std.proofs.lemmas.List.Sorted.{All-permutation}
use Rattle.otp_model.specs.Ranges.{IsTimely}
use Rattle.snapshot_store.specs.Snapshots.{runs_of}
use Rattle.plan_bench.proofs.measure.built.Goals as goal

pub returns : goal.returns
returns c = All-permutation IsTimely c.args.feed.now.runs (runs_of c.in_ok-snapshot.snapshot) c.in_ok-snapshot.ensures c.requires
