use Rattle.std.proofs.Common.{◌∙◌, List, map, subst}
use Rattle.std.specs.Arc.{arc_value}
use Rattle.std.proofs.lemmas.Result.{IfOk-weaker}
use Rattle.otp_model.specs.declared.timetable.Run.{Run}
use Rattle.trip_patterns.specs.Timetables.{StandsFor}
use Rattle.snapshot_store.specs.Snapshots.{blocks_of}
use Rattle.snapshot_store.proofs.OrderLemmas.{stands_in_order}
use Rattle.snapshot_store.proofs.snapshot.Snapshot.build_with.Goals as goal

pub returns : goal.returns
returns g c =
    let blocks = map arc_value c.in_ok-blocks.blocks.items in
    let stand : StandsFor blocks c.args.feed.now.runs = subst (λ (runs : List Run). StandsFor blocks runs) (c.in_ok-runs.ensures ∙ c.as_slice.ensures) c.in_ok-blocks.ensures.blocks in
    IfOk-weaker c.of.result _ _ (λ snapshot moved. (stands_in_order blocks (blocks_of snapshot) c.args.feed.now.runs moved stand).rows) c.of.ensures
