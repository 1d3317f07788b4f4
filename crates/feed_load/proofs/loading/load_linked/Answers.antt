use Rattle.std.proofs.Common.{◌≤◌, ◌^◌, length, ◌∙◌}
use Rattle.feed_load.specs.Loaded.{AreCalls}
use Rattle.feed_load.proofs.LinkedFacts.{sound_trips, trip_rows}
use Rattle.feed_load.proofs.RunFacts.{first_is}
use Rattle.feed_load.proofs.SoundFacts.{passed_fits, sound_feed, sound_runs}
use Rattle.feed_load.proofs.loading.load_linked.Goals as goal

pub calls_by_trip-requires : goal.calls_by_trip-requires
calls_by_trip-requires c = rw c.len.ensures (trip_rows c.args.linked c.requires.resolved)

pub runs_within-requires-clause-clocks : goal.runs_within-requires-clause-clocks
runs_within-requires-clause-clocks c =
    let calls = c.in-Ok.calls.items in
    let are : AreCalls c.args.linked calls = record { count = c.in-Ok.ensures.count ∙ c.len.ensures; each = c.in-Ok.ensures.calls } in
    rw c.deref.ensures.value (λ k d less. (sound_trips c.args.linked calls c.requires.resolved are k d less).clocks)

pub overflow_add-result : goal.overflow_add-result
overflow_add-result c =
    let few : length c.as_slice-4.result.now ≤ 2 ^ 29 = rw c.as_slice-4.ensures c.requires.resolved.few_transfers in
    record { fits = passed_fits _ c.as_slice-4.result.now c.in-Ok-edges.walks.passed c.args.linked.passed c.in-Ok-edges.ensures.passed few c.requires.resolved.few_passed }

pub returns-clause-sound : goal.returns-clause-sound
returns-clause-sound c =
    let linked = c.args.linked in
    let calls = c.in-Ok.calls.items in
    let are : AreCalls linked calls = record { count = c.in-Ok.ensures.count ∙ c.len.ensures; each = c.in-Ok.ensures.calls } in
    let runs = rw (c.as_slice.ensures, c.deref.ensures.value, c.as_slice-2.ensures) at c.in-Ok-runs_within.ensures.runs in
    let few = rw (c.len-2.ensures, c.as_slice.ensures) at c.in-Ok-runs_within.ensures.few in
    sound_feed linked c.args.options.now c.in-Ok-runs_within.runs _ c.requires.resolved c.requires.options few
    (rw runs (sound_runs (length linked.stops) linked.trips calls linked.headways (sound_trips linked calls c.requires.resolved are) c.args.days.now c.requires.days c.requires.rise))
    (first_is c.args.options.now.first_day c.requires.options.first_day.0 c.requires.options.first_day.1)
