-- The tables' numbers are bounds.
use Rattle.std.proofs.Common.{◌≡◌, ◌⊎◌, inl, inr, ℕ, zero, suc, ◌+◌, ◌-◌, ◌*◌, ◌≤◌, ◌<◌, max, min, List, [], Some, length, ap, subst, ◌∙◌, arith, slice_index}
use Rattle.std.specs.List.{All, Contains, slice_get}
use Rattle.std.proofs.lemmas.List.Elements.{All-contains}
use Rattle.std.specs.Option.{option_map_or}
use Rattle.std.proofs.lemmas.Bool.{cases_lt}
use Rattle.std.proofs.lemmas.Option.{slice_get_cases, slice_get_within}
use Rattle.otp_model.specs.Journeys.{IsRideOn}
use Rattle.otp_model.specs.Patterns.{spot_of}
use Rattle.otp_model.specs.Plane.{IsReached}
use Rattle.otp_model.specs.Ranges.{IsTimely}
use Rattle.otp_model.specs.declared.journey.Request.{Request}
use Rattle.otp_model.specs.declared.run_name.RunName.{RunName}
use Rattle.otp_model.specs.declared.timetable.Call.{Call}
use Rattle.otp_model.specs.declared.timetable.Edge.{Edge}
use Rattle.otp_model.specs.declared.timetable.Edges.{Edges}
use Rattle.otp_model.specs.declared.timetable.Run.{Run}
use Rattle.trip_patterns.specs.Lanes.{LaneOf}
use Rattle.trip_patterns.specs.Shapes.{HaveShapes, ShapeOf}
use Rattle.walk_table.specs.Reaches.{AreReached}
use Rattle.walk_table.specs.declared.reach.Reach.{Reach}
use Rattle.end_bounds.specs.declared.bounds.EndBounds.{EndBounds}
use Rattle.end_bounds.specs.Bounds.{AreBounds, CoverBoardings, IsEndBound, IsRideBound, IsWalkBound}
use Rattle.end_bounds.specs.Found.{IsEndNumber, bounds_of}
use Rattle.end_bounds.specs.Levels.{AreLevels, AreStarts}
use Rattle.end_bounds.specs.Points.{ArePointLevels, IsPointColumn}
use Rattle.end_bounds.specs.Scans.{IsExit, far, number_at}
use Rattle.end_bounds.specs.Tables.{IsColumn, row_of}
use Rattle.end_bounds.proofs.ScanLemmas.{spot_at}
use Rattle.end_bounds.proofs.TableLemmas.{row_number}

-- what a row has in a column whose numbers are known
read : (columns : ℕ) (table : List ℕ) (column : ℕ) (numbers : List ℕ) (row : ℕ) → column < columns → IsColumn columns table column numbers → number_at (row_of columns table row) column ≡ number_at numbers row
read columns table column numbers row less is = row_number columns table row column less ∙ is.each row

shape_found : (shapes : List ShapeOf) (n : ℕ) → n < length shapes → (shape : ShapeOf) × (slice_get shapes n ≡ Some shape)
shape_found shapes n less = elim ((slice_get_cases shapes n).1) [
  | inl found ↦ (found.0, found.2)
  | inr past ↦ absurd (omega (arith, less, past.0))
]

-- the same of points
read_points : (columns board_points : ℕ) (table : List ℕ) (column : ℕ) (points : List ℕ) (row : ℕ) → column < columns → IsPointColumn columns board_points table column points
    → number_at (row_of columns table row) column ≡ max (number_at points row) (min (column * board_points) far)
read_points columns board_points table column points row less is = row_number columns table row column less ∙ is.each row

-- a boarding more
one_more : (more board way x y : ℕ) → x ≤ (way + board) + y → max x (min ((more + 1) * board) far) ≤ (way + board) + max y (min (more * board) far)
one_more more board way x y most = omega arith

-- where the destination is reached, the table has no more than the walk at the rate
pub at_exits : (edges : Edges) (r : Request) (egress : List Reach) (rate : ℕ) (table : List ℕ) → AreReached edges r.to egress → length edges.stops ≤ length table → All (IsEndNumber rate table) egress
    → (stop way : ℕ) → IsReached edges r.to stop way → (number_at table stop < far) × (number_at table stop ≤ rate * way)
at_exits edges r egress rate table are room ends stop way reached =
    let reach : Reach = record { stop = stop; seconds = way } in
    let inside : stop < length table = omega (arith, room, slice_get_within edges.stops stop reached.at reached.at_is) in
    let end = All-contains (IsEndNumber rate table) egress reach ends ((are reach).1 reached) in
    (end.within inside, end.most inside)

module _ (blocks : List (List LaneOf)) (edges : Edges) (r : Request) (shapes : List ShapeOf) (shape_at : ℕ → ℕ) (bases : List ℕ) (stops : ℕ) (first first_points : List ℕ) (found : EndBounds)
    (have : HaveShapes blocks shapes shape_at) (rides_are : found.rides ≡ r.rides) (some : 1 ≤ found.rides) (all : length edges.from ≤ stops)
    (starts : AreStarts shape_at bases (length blocks) found.starts.items)
    (levels : AreLevels edges.from r.slack stops shapes bases found.rides first (found.rides - 1) found.seconds.alight.items found.seconds.ready.items found.seconds.place.items)
    (points : ArePointLevels edges.from (r.walk_points - 100) r.board_points stops shapes found.rides (found.rides - 1) first_points (found.rides - 1) found.points.alight.items found.points.ready.items)
    (exits : (stop egress : ℕ) → IsReached edges r.to stop egress → (number_at first stop < far) × (number_at first stop ≤ 1 * egress))
    (exit_points : (stop egress : ℕ) → IsReached edges r.to stop egress → (number_at first_points stop < far) × (number_at first_points stop ≤ (r.walk_points - 100) * egress)) where
  ends : (stop egress : ℕ) → IsReached edges r.to stop egress → IsEndBound r (bounds_of found) stop egress
  ends stop egress reached =
      let now = read found.rides found.seconds.alight.items 0 first stop some levels.begins in
      let now_points = read_points found.rides r.board_points found.points.alight.items 0 first_points stop some points.begins in
      let exit = exits stop egress reached in
      let point = exit_points stop egress reached in
      record { within = rw now exit.0; seconds = rw now (omega (arith, exit.1)); points = rw now_points (omega (arith, point.1)) }

  walks : (stop : ℕ) (row : List Edge) (edge : Edge) (more : ℕ) → slice_get edges.from stop ≡ Some row → Contains row edge → more + 1 < r.rides → (bounds_of found).ready edge.to more < far → IsWalkBound r (bounds_of found) stop edge more
  walks stop row edge more at on few reached =
      let level = levels.each more (omega arith) in
      let pointed = points.each more (omega arith) in
      let next = read found.rides found.seconds.alight.items (more + 1) level.next stop (omega arith) level.next_is in
      let ready = read (found.rides - 1) found.seconds.ready.items more level.readies edge.to (omega arith) level.readies_are in
      let next_points = read_points found.rides r.board_points found.points.alight.items (more + 1) pointed.next stop (omega arith) pointed.next_is in
      let ready_points = read_points (found.rides - 1) r.board_points found.points.ready.items more pointed.readies edge.to (omega arith) pointed.readies_are in
      let inside : stop < stops = omega (arith, all, slice_get_within edges.from stop row at) in
      let bounds = level.edges in
      let bound = bounds.each stop row edge inside at on in
      let way = pointed.edges in
      record {
        within = rw next (bound.within (rw ready at reached));
        seconds = rw (next, ready) bound.seconds;
        points = rw (next_points, ready_points) (one_more more r.board_points ((r.walk_points - 100) * edge.walk) _ _ (way.each stop row edge inside at on));
      }

  -- where the places of a block's position stand
  place_is : (block position more : ℕ) (numbers : List ℕ) → block < length blocks → more < found.rides - 1 → IsColumn (found.rides - 1) found.seconds.place.items more numbers
      → (bounds_of found).place block position more ≡ number_at numbers (slice_index bases (shape_at block) + position)
  place_is block position more numbers inside few is =
      ap (λ start. number_at (option_map_or (λ (start : ℕ). row_of (found.rides - 1) found.seconds.place.items (start + position)) start []) more) (starts.each block inside)
      ∙ read (found.rides - 1) found.seconds.place.items more numbers (slice_index bases (shape_at block) + position) few is

  rides : (block : ℕ) (lanes : List LaneOf) (lane : LaneOf) (run : Run) (from to : ℕ) (name : RunName) (board alight : Call) (more : ℕ)
      → slice_get blocks block ≡ Some lanes → Contains lanes lane → Contains lane.runs run → IsTimely run
      → IsRideOn run from to name board alight → more + 1 < r.rides → (bounds_of found).alight alight.stop more < far → IsRideBound (bounds_of found) block from board alight more
  rides block lanes lane run from to name board alight more at on in-lane timely ride few reached =
      let level = levels.each more (omega arith) in
      let pointed = points.each more (omega arith) in
      let inside = slice_get_within blocks block lanes at in
      let now = read found.rides found.seconds.alight.items more level.now alight.stop (omega arith) level.now_is in
      let ready = read (found.rides - 1) found.seconds.ready.items more level.readies board.stop (omega arith) level.readies_are in
      let place = place_is block from more level.places inside (omega arith) level.places_are in
      let now_points = read_points found.rides r.board_points found.points.alight.items more pointed.now alight.stop (omega arith) pointed.now_is in
      let ready_points = read_points (found.rides - 1) r.board_points found.points.ready.items more pointed.readies board.stop (omega arith) pointed.readies_are in
      let own = have.each block lanes at in
      let shape = shape_found shapes (shape_at block) own.within in
      let fits = own.fits shape.0 lane run shape.1 on in-lane timely in
      let scans = level.scanned in
      let scan = scans.each (shape_at block) shape.0 own.within shape.1 in
      let boards = spot_at shape.0 run from board fits ride.boards in
      let leaves = spot_at shape.0 run to alight fits ride.alights in
      let exit : IsExit level.now run to alight = record { at = ride.alights; alights = ride.may_alight; reached = rw now at reached } in
      let onward = scan.onward from (omega arith) (slice_get_within shape.0.pattern from (spot_of board) boards) in
      let bound = onward.each run to board alight fits ride.before ride.boards exit in
      let pointing = pointed.pointed in
      let point = pointing.each (shape_at block) shape.0 shape.1 in
      record {
        within = rw place bound.within;
        seconds = rw (place, now) bound.ends;
        ready = rw (place, ready) (scan.boards from (spot_of board) (omega arith) boards ride.may_board);
        points = let least = point.each from to (spot_of board) (spot_of alight) (omega arith) ride.before boards leaves ride.may_board ride.may_alight in rw (now_points, ready_points) (omega arith);
      }

  pub are_bounds : AreBounds blocks edges r (bounds_of found)
  are_bounds = record { ends = ends; walks = walks; rides = rides }

  pub cover_boardings : ((more : ℕ) → more < r.rides → more * r.board_points ≤ far) → CoverBoardings r (bounds_of found)
  cover_boardings few = record {
    alight = λ stop more less. covers_alight stop more less (cases_lt more (found.rides - 1));
    ready = λ stop more less.
        let level = points.each more (omega arith) in
        let within = few more (omega arith) in
        rw (read_points (found.rides - 1) r.board_points found.points.ready.items more level.readies stop (omega arith) level.readies_are) (omega arith);
  }
    where
      covers_alight : (stop more : ℕ) → more < r.rides → (more < found.rides - 1) ⊎ (found.rides - 1 ≤ more) → more * r.board_points ≤ (bounds_of found).alight_points stop more
      covers_alight stop more less (inl before) =
          let level = points.each more before in
          let within = few more less in
          rw (read_points found.rides r.board_points found.points.alight.items more level.now stop (omega arith) level.now_is) (omega arith)
      covers_alight stop zero less (inr last) = omega arith
      covers_alight stop (suc n) less (inr last) =
          let level = points.each n (omega arith) in
          let within = few (suc n) less in
          let same : n + 1 ≡ suc n = omega arith in
          rw (read_points found.rides r.board_points found.points.alight.items (suc n) level.next stop (omega arith) (subst (λ (k : ℕ). IsPointColumn found.rides r.board_points found.points.alight.items k level.next) same level.next_is)) (omega arith)
