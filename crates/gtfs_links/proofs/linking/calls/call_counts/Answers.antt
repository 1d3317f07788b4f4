use Rattle.std.proofs.Common.{◌<◌, ◌∙◌, arith, length, sym}
use Rattle.std.proofs.lemmas.List.{get_or_default}
use Rattle.otp_model.specs.Sights.{place_of}
use Rattle.gtfs_links.specs.Index.{trip_of_time}
use Rattle.gtfs_links.proofs.KeptFacts.{count_few, counted_all, counted_none, counts_row, known_at, passes_row}
use Rattle.gtfs_links.proofs.KeyFacts.{number_is}
use Rattle.gtfs_links.proofs.linking.calls.call_counts.Goals as goal

pub loop-place-init : goal.loop-place-init
loop-place-init c = counted_none c.args.trips.now c.args.rows.now c.in_ok-counts.counts.items (rw c.len.ensures at (c.in_ok-counts.ensures.items_if_clones_equal (λ y same. same)))

pub loop-place-preserved-then-is_unnamed : goal.loop-place-preserved-then-is_unnamed
loop-place-preserved-then-is_unnamed c =
    passes_row c.args.trips.now c.args.rows.now c.loop-place.counts.items c.loop-place.place c.index-rows-place.result (omega arith) c.index-rows-place.is c.loop-place.invariant (sym c.is_unnamed.ensures ∙ c.if-is_unnamed.true)

pub index_mut-requires : goal.index_mut-requires
index_mut-requires c =
    let trips = c.args.trips.now in
    let rows = c.args.rows.now in
    let row = c.index-rows-place.result in
    let owner = number_is trips trip_of_time c.args.numbers.now rows c.loop-place.place row c.requires.numbers (omega arith) c.index-rows-place.is in
    let below = known_at trips rows c.loop-place.place row (omega arith) c.index-rows-place.is c.requires.known in
    omega (arith, owner, below, c.loop-place.counts.ok.0)

pub overflow_add-index_mut : goal.overflow_add-index_mut
overflow_add-index_mut c =
    let trips = c.args.trips.now in
    let rows = c.args.rows.now in
    let row = c.index-rows-place.result in
    let owner = number_is trips trip_of_time c.args.numbers.now rows c.loop-place.place row c.requires.numbers (omega arith) c.index-rows-place.is in
    let below = known_at trips rows c.loop-place.place row (omega arith) c.index-rows-place.is c.requires.known in
    let value = rw owner at c.index_mut.ensures.value in
    let room : place_of trips row.trip_id < length c.loop-place.counts.items = omega (arith, below) in
    let few = count_few trips rows c.loop-place.counts.items c.loop-place.place (place_of trips row.trip_id) (omega arith) below c.loop-place.invariant in
    let same = value ∙ get_or_default c.loop-place.counts.items (place_of trips row.trip_id) c.index_mut.result.now 0 room in
    omega (arith, same, few, c.requires.few)

pub loop-place-preserved : goal.loop-place-preserved
loop-place-preserved c =
    let trips = c.args.trips.now in
    let rows = c.args.rows.now in
    let row = c.index-rows-place.result in
    let owner = number_is trips trip_of_time c.args.numbers.now rows c.loop-place.place row c.requires.numbers (omega arith) c.index-rows-place.is in
    let below = known_at trips rows c.loop-place.place row (omega arith) c.index-rows-place.is c.requires.known in
    let value = rw owner at c.index_mut.ensures.value in
    let room : place_of trips row.trip_id < length c.loop-place.counts.items = omega (arith, below) in
    let same = value ∙ get_or_default c.loop-place.counts.items (place_of trips row.trip_id) c.index_mut.result.now 0 room in
    rw (owner, same) (counts_row trips rows c.loop-place.counts.items c.loop-place.place row (omega arith) c.index-rows-place.is c.loop-place.invariant (sym c.if-is_unnamed.ensures) below)

pub returns : goal.returns
returns c = rw c.from_vec.ensures (counted_all c.args.trips.now c.args.rows.now c.loop-place.counts.items c.loop-place.place (omega arith) c.loop-place.invariant)
