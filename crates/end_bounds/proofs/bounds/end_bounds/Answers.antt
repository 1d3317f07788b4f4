use Rattle.std.proofs.Common.{arith, ◌≤◌, ◌*◌, ◌<◌, ℕ, refl}
use Rattle.std.proofs.lemmas.Nat.{mul-le}
use Rattle.end_bounds.proofs.LawLemmas.{are_bounds, at_exits, cover_boardings}
use Rattle.end_bounds.proofs.bounds.end_bounds.Goals as goal

pub returns-clause-bounds : goal.returns-clause-bounds
returns-clause-bounds g c =
    let edges = c.args.edges.now in
    let r = c.args.request.now in
    let numbers = c.requires.numbers in
    are_bounds (g.T.Timetable.blocks c.args.timetable.now) edges r (g.T.Timetable.shapes c.args.timetable.now) (g.T.Timetable.shape_at c.args.timetable.now) c.in_ok-layout.layout.bases.items
    c.stop_count-stops.result c.in_ok-exits.exits.items c.in_ok-exits-2.exits.items (record { rides = r.rides; seconds = c.in_ok-seconds.seconds; points = c.in_ok-points.points; starts = c.in_ok-starts.starts })
    (g.met.T.Timetable.fits c.args.timetable.now) refl (numbers.rides.0) c.stop_count-stops.ensures.from
    (rw c.deref.ensures.value at c.in_ok-starts.ensures)
    (rw c.in_ok-exits.ensures.size at c.in_ok-seconds.ensures)
    (rw c.in_ok-exits-2.ensures.size at c.in_ok-points.ensures)
    (at_exits edges r c.args.egress.now 1 c.in_ok-exits.exits.items c.requires.egress (omega (arith, c.in_ok-exits.ensures.size, c.stop_count-stops.ensures.stops)) c.in_ok-exits.ensures.ends)
    (at_exits edges r c.args.egress.now _ c.in_ok-exits-2.exits.items c.requires.egress (omega (arith, c.in_ok-exits-2.ensures.size, c.stop_count-stops.ensures.stops)) c.in_ok-exits-2.ensures.ends)

-- at most seven times a million
few : (rides board more : ℕ) → rides ≤ 8 → board ≤ 1000000 → more < rides → more * board ≤ 4294967295
few rides board more a b less = omega (arith, mul-le more board 7 1000000 (omega arith) b)

pub returns-clause-boardings : goal.returns-clause-boardings
returns-clause-boardings g c =
    let edges = c.args.edges.now in
    let r = c.args.request.now in
    let numbers = c.requires.numbers in
    cover_boardings (g.T.Timetable.blocks c.args.timetable.now) edges r (g.T.Timetable.shapes c.args.timetable.now) (g.T.Timetable.shape_at c.args.timetable.now) c.in_ok-layout.layout.bases.items
    c.stop_count-stops.result c.in_ok-exits.exits.items c.in_ok-exits-2.exits.items (record { rides = r.rides; seconds = c.in_ok-seconds.seconds; points = c.in_ok-points.points; starts = c.in_ok-starts.starts })
    (g.met.T.Timetable.fits c.args.timetable.now) refl (numbers.rides.0) c.stop_count-stops.ensures.from
    (rw c.deref.ensures.value at c.in_ok-starts.ensures)
    (rw c.in_ok-exits.ensures.size at c.in_ok-seconds.ensures)
    (rw c.in_ok-exits-2.ensures.size at c.in_ok-points.ensures)
    (at_exits edges r c.args.egress.now 1 c.in_ok-exits.exits.items c.requires.egress (omega (arith, c.in_ok-exits.ensures.size, c.stop_count-stops.ensures.stops)) c.in_ok-exits.ensures.ends)
    (at_exits edges r c.args.egress.now _ c.in_ok-exits-2.exits.items c.requires.egress (omega (arith, c.in_ok-exits-2.ensures.size, c.stop_count-stops.ensures.stops)) c.in_ok-exits-2.ensures.ends)
    (λ more less. few r.rides r.board_points more numbers.rides.1 numbers.board_points less)
