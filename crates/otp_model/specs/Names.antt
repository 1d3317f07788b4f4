-- The names of runs and their order: planned ones by day, then by trip, then by start, that without a start
-- first; behind them the added ones, by day and then by the bytes of their text.
use Rattle.std.specs.Prelude.{◌≡◌, ℕ, List, []}
use Rattle.std.specs.Cmp.Lexicographic.{slice_cmp}
use Rattle.std.specs.Option.{option_cmp}
use Rattle.std.specs.Ordering.{int_cmp, nat_cmp, ordering_then}
use Rattle.std.specs.declared.cmp.Ordering.{Ordering}
use Rattle.std.specs.declared.cmp.Ordering.TheVariants.{Less}
use Rattle.otp_model.specs.declared.run_name.RunName.{RunName}
use Rattle.otp_model.specs.declared.run_name.TripName.{TripName}
use Rattle.otp_model.specs.declared.run_name.TripName.TheVariants.{Planned, Added}

-- planned names stand before added ones
abbrev pub kind_of : TripName → ℕ
kind_of (Planned trip) = 0
kind_of (Added text) = 1

-- the number of a planned trip, and the text of an added one
abbrev pub number_of : TripName → ℕ
number_of (Planned trip) = trip
number_of (Added text) = 0

abbrev pub text_of : TripName → List ℕ
text_of (Planned trip) = []
text_of (Added text) = text

abbrev pub run_name_cmp : RunName → RunName → Ordering
run_name_cmp a b =
    ordering_then (nat_cmp (kind_of a.trip) (kind_of b.trip))
    (ordering_then (int_cmp a.day b.day)
    (ordering_then (nat_cmp (number_of a.trip) (number_of b.trip))
    (ordering_then (option_cmp nat_cmp a.start b.start) (slice_cmp nat_cmp (text_of a.trip) (text_of b.trip)))))

abbrev pub IsNameBelow : RunName → RunName → Type 0
IsNameBelow a b = run_name_cmp a b ≡ Less
