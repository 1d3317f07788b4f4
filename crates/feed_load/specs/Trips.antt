-- What is told of a trip's rows that are in order: its calls, or its first fault.
use Rattle.std.specs.Prelude.{◌≡◌, ◌≢◌, ◌<◌, ◌^◌, ℕ, List, length, Some, slice_get}
use Rattle.std.specs.List.{All, AllPairs}
use Rattle.otp_model.specs.declared.links.TimeRow.{TimeRow}
use Rattle.otp_model.specs.declared.timetable.Call.{Call}
use Rattle.feed_load.specs.Calls.{AreCallsOf, FallsAt, FallsFirstAt, HasEnds, IsInOrder, LacksAnEndAt, rows_of}
use Rattle.feed_load.specs.Anchors.{HasClocks}
use Rattle.feed_load.specs.declared.trip_calls.TripFault.{TripFault}
use Rattle.feed_load.specs.declared.trip_calls.TripFault.TheVariants as fault

-- the number of the row at a place
abbrev pub IsRowAt : List TimeRow → ℕ → ℕ → Type 0
IsRowAt rows place number = (row : TimeRow) × (slice_get rows place ≡ Some row) × (number ≡ row.row)

-- the calls of the rows, if both ends give times and no time falls
pub record AreGoodCalls (rows : List TimeRow) (calls : List Call) : Type 0 where
  pub ends : HasEnds rows
  pub are : AreCallsOf rows calls
  pub never_fall : (place : ℕ) → FallsAt calls place → ⊥

-- the first or the last row gives no time
abbrev pub LacksAnEnd : List TimeRow → ℕ → Type 0
LacksAnEnd rows number = (place : ℕ) × LacksAnEndAt rows place × IsRowAt rows place number

-- times fall first at this row
pub record FallsAtRow (rows : List TimeRow) (number : ℕ) : Type 0 where
  pub ends : HasEnds rows
  pub calls : List Call
  pub are : AreCallsOf rows calls
  pub place : ℕ
  pub falls : FallsFirstAt calls place
  pub row : IsRowAt rows place number

-- the fault is the trip's first one; want of memory is free
abbrev pub IsTripFault : List TimeRow → TripFault → Type 0
IsTripFault rows (fault.NoTimes row) = LacksAnEnd rows row
IsTripFault rows (fault.TimesFall row) = FallsAtRow rows row
IsTripFault rows fault.Memory = Unit {0}

-- rows of so many trips: each has some, their times are clocks, and no two of a trip have one sequence
pub record AreTripRows (trips : ℕ) (times : List TimeRow) : Type 0 where
  pub few_trips : trips < 2 ^ 32
  pub few : length times < 2 ^ 32
  pub clocks : All HasClocks times
  pub within : All (λ row. row.trip < trips) times
  pub some : (trip : ℕ) → trip < trips → 0 < length (rows_of times trip)
  pub distinct : AllPairs (λ a b. a.trip ≡ b.trip → a.seq ≢ b.seq) times

-- the calls of rows, by rising sequence
pub record AreCallsOfTrip (rows : List TimeRow) (calls : List Call) : Type 0 where
  pub ordered : List TimeRow
  pub is_ordered : IsInOrder rows ordered
  pub good : AreGoodCalls ordered calls

-- a fault of rows, by rising sequence
pub record HasFault (rows : List TimeRow) (fault : TripFault) : Type 0 where
  pub ordered : List TimeRow
  pub is_ordered : IsInOrder rows ordered
  pub is_fault : IsTripFault ordered fault

-- the first fault of rows; want of memory is free
abbrev pub IsTripFaultOf : List TimeRow → TripFault → Type 0
IsTripFaultOf rows (fault.NoTimes row) = HasFault rows (fault.NoTimes row)
IsTripFaultOf rows (fault.TimesFall row) = HasFault rows (fault.TimesFall row)
IsTripFaultOf rows fault.Memory = Unit {0}

-- the calls of a trip
abbrev pub IsTripOf : List TimeRow → ℕ → List Call → Type 0
IsTripOf times trip calls = AreCallsOfTrip (rows_of times trip) calls

-- the fault is that of a trip, and each trip before it has none
pub record IsFaultOfTrip (times : List TimeRow) (fault : TripFault) : Type 0 where
  pub trip : ℕ
  pub is_fault : HasFault (rows_of times trip) fault
  pub before : (earlier : ℕ) → earlier < trip → (calls : List Call) × IsTripOf times earlier calls

-- the first fault over the trips in their order; want of memory is free
abbrev pub IsFirstFault : List TimeRow → TripFault → Type 0
IsFirstFault times (fault.NoTimes row) = IsFaultOfTrip times (fault.NoTimes row)
IsFirstFault times (fault.TimesFall row) = IsFaultOfTrip times (fault.TimesFall row)
IsFirstFault times fault.Memory = Unit {0}
