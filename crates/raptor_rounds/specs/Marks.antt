-- Where some were ready for a ride, each of whose rides is settled.
use Rattle.std.specs.Prelude.{◌≡◌, ℕ, ℤ, ◌≤ℤ◌, List, [], ◌∷◌, ◌++◌}
use Rattle.otp_base.specs.EachAt.{EachAt}
use Rattle.otp_model.specs.Beginnings.{Hop, IsHop}
use Rattle.otp_model.specs.declared.journey.Request.{Request}
use Rattle.otp_model.specs.declared.timetable.Run.{Run}
use Rattle.raptor_rounds.specs.declared.marks.Marks.{Marks}
use Rattle.raptor_rounds.specs.declared.node.Node.{Node}
use Rattle.raptor_rounds.specs.declared.ready.Ready.{Ready}
use Rattle.raptor_rounds.specs.declared.state.RoundState.{RoundState}
use Rattle.raptor_rounds.specs.Closure.{Entry}
use Rattle.raptor_rounds.specs.Labels.{entry_of}
use Rattle.raptor_rounds.specs.States.{AreBags, IsLate, IsStateSettled, Saw, SawDepartureOf}

-- a ride that who is ready there can take
pub record CanBoard (runs : List Run) (e : Entry) (h : Hop) : Type 0 where
  pub stop_is : h.board.stop ≡ e.stop
  pub in_time : e.time ≤ℤ h.board.departure
  pub ride : IsHop runs h

-- and then alight
abbrev pub entry_after : Entry → Hop → Entry
entry_after e h = record { stop = h.alight.stop; departure = e.departure; rides = e.rides; time = h.alight.arrival; penalty = e.penalty }

abbrev pub IsBoardedOut : List Run → Request → RoundState → Entry → Type 0
IsBoardedOut runs r s e = (h : Hop) → CanBoard runs e h → IsStateSettled r s (entry_after e h)

abbrev pub IsBoardedAt : List Run → Request → RoundState → ℕ → Node → Type 0
IsBoardedAt runs r s i n = IsBoardedOut runs r s (entry_of n)

-- marks of departures that were seen, with their bags, each of whose rides is settled
pub record KeepMarks (runs : List Run) (r : Request) (s : RoundState) (marks : Marks) : Type 0 where
  pub bags_are : AreBags marks.nodes.items marks.bags.items
  pub seen : EachAt (SawDepartureOf s) marks.nodes.items
  pub boarded : EachAt (IsBoardedAt runs r s) marks.nodes.items

-- while a departure is searched, than which none of theirs is earlier
pub record AreMarks (runs : List Run) (r : Request) (s : RoundState) (departure : ℤ) (marks : Marks) : Type 0 where
  pub kept : KeepMarks runs r s marks
  pub late : EachAt (IsLate departure) marks.nodes.items
  pub saw : Saw s departure

abbrev pub mark_of : Ready → Node
mark_of b = record {
  stop = b.stop;
  departure = b.departure;
  rides = b.rides;
  time = b.time;
  penalty = b.penalty;
  parent = b.parent;
  walk = b.walk;
  block = 0;
  lane = 0;
  row = 0;
  board = 0;
  alight = 0;
}

-- the mark came last
pub record IsMarked (old : Marks) (mark : Node) (new : Marks) : Type 0 where
  pub nodes_are : new.nodes.items ≡ old.nodes.items ++ mark ∷ []
  pub bags_are : AreBags old.nodes.items old.bags.items → AreBags (old.nodes.items ++ mark ∷ []) new.bags.items
