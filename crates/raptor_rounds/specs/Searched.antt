-- What rounds leave.
use Rattle.std.specs.Prelude.{◌≤◌, ℕ, ℤ, List}
use Rattle.otp_base.specs.EachAt.{EachAt}
use Rattle.otp_model.specs.declared.timetable.Run.{Run}
use Rattle.otp_model.specs.declared.timetable.Edges.{Edges}
use Rattle.otp_model.specs.declared.journey.Request.{Request}
use Rattle.end_bounds.specs.Bounds.{AreBounds}
use Rattle.trip_patterns.specs.Lanes.{LaneOf}
use Rattle.walk_table.specs.Reaches.{AreReached}
use Rattle.raptor_rounds.specs.declared.state.RoundState.{RoundState}
use Rattle.raptor_rounds.specs.Closure.{IsClosed}
use Rattle.raptor_rounds.specs.Labels.{InArena, InFinals, IsLabelOf}
use Rattle.raptor_rounds.specs.Marks.{KeepMarks}
use Rattle.raptor_rounds.specs.States.{IsOpen, IsRound, Saw, SawDepartureOf, bounds_of}

-- A state after rounds for some departures: each label stands for a beginning of a journey that departs at one of them, each
-- such beginning is met or lost, and each label at a stop of the egress has its final.
pub record IsSearched (runs : List Run) (blocks : List (List LaneOf)) (edges : Edges) (r : Request) (s : RoundState) : Type 0 where
  pub open_is : IsOpen r s
  pub egress : AreReached edges r.to s.aim.egress.items
  pub bounds : AreBounds blocks edges r (bounds_of s)
  pub sound : EachAt (IsLabelOf runs blocks edges r s.arena.items) s.arena.items
  pub seen : EachAt (SawDepartureOf s) s.arena.items
  pub closed : IsClosed runs edges r (bounds_of s) (InArena s.arena.items) (InFinals s.finals.items) (Saw s)
  pub marks : KeepMarks runs r s s.marks

-- after the last round for a departure
pub record IsLastRound (runs : List Run) (blocks : List (List LaneOf)) (edges : Edges) (r : Request) (departure : ℤ) (departures : List ℤ) (s : RoundState) : Type 0 where
  pub first : ℕ
  pub rides : ℕ
  pub all : r.rides ≤ rides
  pub round : IsRound runs blocks edges r departure departures first rides s
