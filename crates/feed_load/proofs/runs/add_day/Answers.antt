use Rattle.std.proofs.Common.{◌∙◌, refl}
use Rattle.feed_load.specs.Runs.{runs_at}
use Rattle.feed_load.proofs.RunFacts.{runs_step}
use Rattle.feed_load.proofs.runs.add_day.Goals as goal

pub loop-number-preserved : goal.loop-number-preserved
loop-number-preserved c =
    let table = c.args.table.now in
    let made = c.in_ok-add_trip.ensures in
    let kept = c.loop-number.invariant in
    record {
      kept = made.marks;
      times = made.times ∙ kept.times;
      runs = runs_step (runs_at table.trips.now table.calls.now table.headways.now c.args.day.now) c.loop-number.number c.args.runs.now c.loop-number.runs c.add_trip.new.runs
          (runs_at table.trips.now table.calls.now table.headways.now c.args.day.now c.loop-number.number) refl kept.runs made.runs;
    }
