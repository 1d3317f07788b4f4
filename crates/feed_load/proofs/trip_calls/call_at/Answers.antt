use Rattle.std.proofs.Common.{◌∙◌, w64}
use Rattle.std.proofs.lemmas.Int.{to_z-of_z}
use Rattle.std.proofs.lemmas.Option.{slice_get-get_or}
use Rattle.feed_load.proofs.RowFacts.{filled_call}
use Rattle.feed_load.proofs.trip_calls.call_at.Goals as goal

pub returns-in-None : goal.returns-in-None
returns-in-None c =
    let given = c.in-None.ensures.given in
    let made = c.call_with-in-None.ensures in
    let time = to_z-of_z w64 c.time_between-time.result (record { sfits = c.time_between-time.type_inv }) ∙ c.time_between-time.ensures in
    filled_call c.args.rows.now c.args.place c.args.left c.args.reached _ c.call_with-in-None.result
    (slice_get-get_or c.args.rows.now c.args.place _ c.requires.within) given c.requires.left c.requires.reached made.is (made.arrives ∙ time) (made.departs ∙ time)
