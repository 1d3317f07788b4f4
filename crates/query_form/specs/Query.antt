-- What the query of a plan asks for. Names, ranges and defaults of the parameters are this project's own.
use Rattle.std.specs.Prelude.{◌≡◌, ℕ, ◌≤◌, ◌^◌, ◌==◌, List, Option, Some, None, Result, Ok, Err, codes, pos, ◌≤ℤ◌}
use Rattle.otp_base.specs.Number.{number_in}
use Rattle.otp_base.specs.Results.{◌>>=◌}
use Rattle.otp_model.specs.Limits.{least_walk_points, most_board_points, most_rides, most_walk_points}
use Rattle.otp_model.specs.declared.timetable.Stop.{Stop}
use Rattle.otp_model.specs.declared.journey.Cursor.{Cursor}
use Rattle.otp_model.specs.declared.journey.Place.{Place}
use Rattle.otp_model.specs.declared.journey.Request.{Request}
use Rattle.otp_model.specs.Plane.{IsPlaceOf}
use Rattle.otp_model.specs.Ranges.{IsRequestInRange}
use Rattle.paging.specs.Text.{cursor_of}
use Rattle.query_form.specs.declared.fault.QueryFault.{QueryFault}
use Rattle.query_form.specs.declared.fault.QueryFault.TheVariants as fault
use Rattle.query_form.specs.declared.fault.TargetFault.{TargetFault}
use Rattle.query_form.specs.declared.fault.TargetFault.TheVariants as target
use Rattle.query_form.specs.declared.pairs.Pair.{Pair}
use Rattle.query_form.specs.declared.parameter.Parameter.{Parameter}
use Rattle.query_form.specs.declared.parameter.Parameter.TheVariants as parameter
use Rattle.query_form.specs.declared.parameter.Refusal.{Refusal}
use Rattle.query_form.specs.Pairs.{pairs_of, value_of}
use Rattle.query_form.specs.Place.{place_of}

abbrev pub name_of : Parameter → List ℕ
name_of parameter.From = codes "from"
name_of parameter.To = codes "to"
name_of parameter.Time = codes "time"
name_of parameter.Window = codes "window"
name_of parameter.Rides = codes "rides"
name_of parameter.Slack = codes "slack"
name_of parameter.WalkPoints = codes "walk_points"
name_of parameter.BoardPoints = codes "board_points"
name_of parameter.Page = codes "page"
name_of parameter.Cursor = codes "cursor"
name_of parameter.AtLeast = codes "at_least"
name_of parameter.Pin = codes "pin"
name_of parameter.Commit = codes "commit"

-- the fault of a parameter
abbrev pub under : {A : Type 0} → Parameter → Result A QueryFault → Result A Refusal
under p (Ok x) = Ok x
under p (Err cause) = Err (record { cause = cause; parameter = p })

abbrev pub accepted : {A : Type 0} → Option A → Result A QueryFault
accepted None = Err fault.Bad
accepted (Some x) = Ok x

-- what stands in a missing one's place, if it may be missing
abbrev pub default_or_missing : {A : Type 0} → Option A → Result A QueryFault
default_or_missing None = Err fault.Missing
default_or_missing (Some x) = Ok x

-- a number in a range
abbrev pub number_from : ℕ → ℕ → Option ℕ → Result (Option (List ℕ)) QueryFault → Result ℕ QueryFault
number_from low high default (Err cause) = Err cause
number_from low high default (Ok None) = default_or_missing default
number_from low high default (Ok (Some text)) = accepted (number_in low high text)

unfoldable pub number_at : List Pair → Parameter → ℕ → ℕ → Option ℕ → Result ℕ Refusal
number_at pairs p low high default = under p (number_from low high default (value_of pairs (name_of p)))

-- a place
abbrev pub place_from : List Stop → ℕ → Result (Option (List ℕ)) QueryFault → Result Place QueryFault
place_from stops scale (Err cause) = Err cause
place_from stops scale (Ok None) = Err fault.Missing
place_from stops scale (Ok (Some text)) = place_of stops scale text

unfoldable pub place_at : List Pair → Parameter → List Stop → ℕ → Result Place Refusal
place_at pairs p stops scale = under p (place_from stops scale (value_of pairs (name_of p)))

-- a cursor, or none
abbrev pub read_one : Option Cursor → Result (Option Cursor) QueryFault
read_one None = Err fault.Bad
read_one (Some cursor) = Ok (Some cursor)

abbrev pub cursor_from : Result (Option (List ℕ)) QueryFault → Result (Option Cursor) QueryFault
cursor_from (Err cause) = Err cause
cursor_from (Ok None) = Ok None
cursor_from (Ok (Some text)) = read_one (cursor_of text)

unfoldable pub cursor_at : List Pair → Result (Option Cursor) Refusal
cursor_at pairs = under parameter.Cursor (cursor_from (value_of pairs (name_of parameter.Cursor)))

-- the request, or its first fault
unfoldable pub request_in : List Pair → List Stop → ℕ → Result Request Refusal
request_in pairs stops scale = do
  from ← place_at pairs parameter.From stops scale
  to ← place_at pairs parameter.To stops scale
  time ← number_at pairs parameter.Time 0 9999999999 None
  window ← number_at pairs parameter.Window 1 86400 (Some 3600)
  rides ← number_at pairs parameter.Rides 1 most_rides (Some 4)
  slack ← number_at pairs parameter.Slack 0 3600 (Some 120)
  walk_points ← number_at pairs parameter.WalkPoints least_walk_points most_walk_points (Some 200)
  board_points ← number_at pairs parameter.BoardPoints 0 most_board_points (Some 60000)
  page ← number_at pairs parameter.Page 1 200 (Some 20)
  cursor ← cursor_at pairs
  at_least ← number_at pairs parameter.AtLeast 0 (2 ^ 40) (Some 0)
  pin ← number_at pairs parameter.Pin 0 1 (Some 0)
  Ok (record { from = from; to = to; time = pos time; window = window; rides = rides; slack = slack; walk_points = walk_points; board_points = board_points; page = page; cursor = cursor; at_least = at_least; pin = pin == 1 })

abbrev pub query_of : List ℕ → List Stop → ℕ → Result Request Refusal
query_of query stops scale = request_in (pairs_of query) stops scale

-- a refusal as it is told, by the parameter's name, unless memory ran out
abbrev pub IsNamed : Refusal → TargetFault → Type 0
IsNamed refusal target.Path = ⊥
IsNamed refusal target.FeedNumber = ⊥
IsNamed refusal target.Method = ⊥
IsNamed refusal target.Memory = Unit {0}
IsNamed refusal (target.Query cause name) = (cause ≡ refusal.cause) × (name ≡ name_of refusal.parameter)

abbrev pub IsRefused : Result Request Refusal → TargetFault → Type 0
IsRefused read target.Path = ⊥
IsRefused read target.FeedNumber = ⊥
IsRefused read target.Method = ⊥
IsRefused read target.Memory = Unit {0}
IsRefused read (target.Query cause name) = (refusal : Refusal) × (read ≡ Err refusal) × (cause ≡ refusal.cause) × (name ≡ name_of refusal.parameter)

-- what was answered is what the query asks for, or its first fault, unless memory ran out
abbrev pub Answers : Result Request TargetFault → Result Request Refusal → Type 0
Answers (Ok request) read = read ≡ Ok request
Answers (Err fault) read = IsRefused read fault

-- the ranges of a request that was read
pub record IsAsked (stops : List Stop) (r : Request) : Type 0 where
  pub from : IsPlaceOf stops r.from
  pub to : IsPlaceOf stops r.to
  pub numbers : IsRequestInRange r
  pub time : (pos 0 ≤ℤ r.time) × (r.time ≤ℤ pos 9999999999)
  pub window : (1 ≤ r.window) × (r.window ≤ 86400)
  pub slack : r.slack ≤ 3600
  pub page : (1 ≤ r.page) × (r.page ≤ 200)
  pub at_least : r.at_least ≤ 2 ^ 40
