-- Days and times of runs: they fit the machine's numbers, and runs are gathered trip by trip.
use Rattle.std.proofs.Common.{◌≡◌, ℕ, ◌+◌, ◌*◌, ◌^◌, ◌<◌, ◌≤◌, ℤ, pos, negsuc, ◌+ℤ◌, ◌-ℤ◌, ◌*ℤ◌, ◌≤ℤ◌, FitsSigned, w32, w64, to_z, of_z, List, [], ◌∷◌, ◌++◌, map, length, get_or, zero-add, None, Some, Bool, true, false, subst, refl, ap, sym, append_assoc, lit<, arith, ◌∙◌}
use Rattle.std.specs.List.{flat_map, range_with_len, slice_get}
use Rattle.std.proofs.Math.IntN.{pos-*ℤ-pos}
use Rattle.std.proofs.lemmas.List.FromFn.{map-range_with_len_more}
use Rattle.std.proofs.lemmas.Int.{ints, to_z-of_z, to_z_pos}
use Rattle.otp_model.specs.Limits.{clock_end}
use Rattle.otp_model.specs.Ranges.{IsServiceDay}
use Rattle.otp_model.specs.Rows.{IsWithin}
use Rattle.otp_model.specs.declared.tables.Tables.{Tables}
use Rattle.otp_model.specs.declared.timetable.Zone.{Zone}
use Rattle.otp_model.specs.declared.timetable.Call.{Call}
use Rattle.otp_model.specs.declared.timetable.Run.{Run}
use Rattle.otp_model.specs.declared.timetable.Trip.{Trip}
use Rattle.otp_model.proofs.Lengths.{fits, natural_within}
use Rattle.feed_load.specs.declared.service_day.ServiceDay.{ServiceDay}
use Rattle.feed_load.specs.Runs.{is_among, run_from, runs_at, runs_of_trip, service_day, shift_of}
use Rattle.feed_load.specs.Starts.{is_start, starts_by, starts_in, starts_of}
use Rattle.gtfs_links.specs.declared.feed.HeadwayRow.{HeadwayRow}
use Rattle.std.specs.List.{All, filter}
use Rattle.std.proofs.lemmas.List.Elements.{All-filter, All-from_get_or}
use Rattle.std.proofs.lemmas.List.FromFn.{get_or-range_with_len, length-range_with_len}
use Rattle.feed_load.proofs.RangeFacts.{gathered_more}

sum_within : (instant time : ℤ) → IsWithin (2 ^ 35 + 2 * clock_end) instant → IsWithin clock_end time → IsWithin (2 ^ 36) (instant +ℤ time)
sum_within instant time s t = record { low = omega (arith, ints, s.low, t.low); high = omega (arith, ints, s.high, t.high) }

-- a time of the day, as the machine adds it
pub time_from : (instant time : ℤ) → IsWithin (2 ^ 35 + 2 * clock_end) instant → IsWithin clock_end time
    → to_z w64 (of_z w64 (to_z w64 (of_z w64 instant) +ℤ to_z w64 (of_z w64 time))) ≡ (instant +ℤ time)
time_from instant time s t =
    rw (to_z-of_z w64 instant (fits (2 ^ 35 + 2 * clock_end) instant (lit< tt) s), to_z-of_z w64 time (fits clock_end time (lit< tt) t))
    (to_z-of_z w64 (instant +ℤ time) (fits (2 ^ 36) (instant +ℤ time) (lit< tt) (sum_within instant time s t)))

-- where a day of service starts
pub start_within : (day start : ℤ) → IsServiceDay day → IsWithin 93599 (start -ℤ day *ℤ pos 86400) → IsWithin (2 ^ 35) start
start_within (pos n) start day near =
    let close : IsWithin 93599 (start -ℤ pos (n * 86400)) = rw (pos-*ℤ-pos n 86400) at near in
    record { low = omega (arith, ints, day.high, close.low); high = omega (arith, ints, day.high, close.high) }
start_within (negsuc n) start day near = absurd (omega (arith, ints, day.low))

day_fits : (first : ℤ) → IsWithin 376200 first → FitsSigned w32 first
day_fits (pos n) h = record { sfits = omega (arith, ints, h.high) }
day_fits (negsuc n) h = record { sfits = omega (arith, ints, h.low) }

-- a day of the horizon, as the machine adds it
pub day_from : (first : ℤ) (n : ℕ) → pos 0 ≤ℤ first → first ≤ℤ pos 375834 → n ≤ 31
    → to_z w32 (of_z w32 (to_z w32 (of_z w32 first) +ℤ to_z w32 n)) ≡ (first +ℤ pos n)
day_from first n low high few =
    let small : n < 2 ^ 31 = omega (arith, few) in
    let here : IsWithin 376200 first = record { low = omega (arith, ints, low); high = omega (arith, ints, high) } in
    let there : IsWithin 376200 (first +ℤ pos n) = record { low = omega (arith, ints, low); high = omega (arith, ints, high, few) } in
    rw (to_z-of_z w32 first (day_fits first here), to_z_pos w32 n small) (to_z-of_z w32 (first +ℤ pos n) (day_fits (first +ℤ pos n) there))

pub day_of_service : (first : ℤ) (n : ℕ) → pos 0 ≤ℤ first → first ≤ℤ pos 375834 → n ≤ 31 → IsServiceDay (first +ℤ pos n)
day_of_service first n low high few = record { low = omega (arith, ints, low); high = omega (arith, ints, high, few) }

-- the runs of one trip more
pub runs_step : (f : ℕ → List Run) (n : ℕ) (initial runs new more : List Run) → f n ≡ more
    → runs ≡ initial ++ flat_map f (range_with_len 0 n) → new ≡ runs ++ more → new ≡ initial ++ flat_map f (range_with_len 0 (n + 1))
runs_step f n initial runs new more here so_far added =
    added ∙ (ap (λ (rs : List Run). rs ++ more) so_far
    ∙ (append_assoc initial (flat_map f (range_with_len 0 n)) more
    ∙ ap (λ (rs : List Run). initial ++ rs) (ap (λ (rs : List Run). flat_map f (range_with_len 0 n) ++ rs) (sym here) ∙ sym (gathered_more f n))))

-- one day more
pub days_step : (tables : Tables) (zone : Zone) (first given : ℤ) (n : ℕ) (days new : List ServiceDay) (day : ServiceDay)
    → days ≡ map (λ (k : ℕ). service_day tables zone (first +ℤ pos k)) (range_with_len 0 n) → day ≡ service_day tables zone given → given ≡ (first +ℤ pos n)
    → new ≡ days ++ day ∷ [] → new ≡ map (λ (k : ℕ). service_day tables zone (first +ℤ pos k)) (range_with_len 0 (n + 1))
days_step tables zone first given n days new day so_far is same added =
    let f : ℕ → ServiceDay = λ k. service_day tables zone (first +ℤ pos k) in
    let last : day ≡ f n = is ∙ ap (service_day tables zone) same in
    added ∙ (ap (λ (ds : List ServiceDay). ds ++ day ∷ []) so_far
    ∙ (ap (λ (d : ServiceDay). map f (range_with_len 0 n) ++ d ∷ []) last ∙ sym (map-range_with_len_more f 0 n n (zero-add n))))

pub first_is : (first : ℤ) → pos 0 ≤ℤ first → first ≤ℤ pos 375834 → to_z w32 (of_z w32 first) ≡ first
first_is first low high = to_z-of_z w32 first (day_fits first (record { low = omega (arith, ints, low); high = omega (arith, ints, high) }))

-- the instant from which the times of a run count, as the machine adds it
pub instant_within : (start shift : ℤ) → IsWithin (2 ^ 35) start → IsWithin (2 * clock_end) shift → IsWithin (2 ^ 35 + 2 * clock_end) (start +ℤ shift)
instant_within start shift s t = record { low = omega (arith, ints, s.low, t.low); high = omega (arith, ints, s.high, t.high) }

pub instant_from : (start shift : ℤ) → IsWithin (2 ^ 35) start → IsWithin (2 * clock_end) shift
    → to_z w64 (of_z w64 (to_z w64 (of_z w64 start) +ℤ to_z w64 (of_z w64 shift))) ≡ (start +ℤ shift)
instant_from start shift s t =
    rw (to_z-of_z w64 start (fits (2 ^ 35) start (lit< tt) s), to_z-of_z w64 shift (fits (2 * clock_end) shift (lit< tt) t))
    (to_z-of_z w64 (start +ℤ shift) (fits (2 ^ 35 + 2 * clock_end) (start +ℤ shift) (lit< tt) (instant_within start shift s t)))

-- by how much times are moved
pub shift_first : (start : ℕ) (calls : List Call) (d : Call) → 0 < length calls → shift_of (Some start) calls ≡ (pos start -ℤ (get_or calls 0 d).departure)
shift_first start [] d some = absurd (omega (arith, some))
shift_first start (call ∷ calls) d some = refl

pub shift_none : (start : ℕ) (calls : List Call) → length calls ≡ 0 → shift_of (Some start) calls ≡ pos 0
shift_none start [] none = refl
shift_none start (call ∷ calls) none = absurd (omega (arith, none))

pub shift_within : (start : ℕ) (departure : ℤ) → start < clock_end → IsWithin clock_end departure → IsWithin (2 * clock_end) (pos start -ℤ departure)
shift_within start departure s d = record { low = omega (arith, ints, s, d.high); high = omega (arith, ints, s, d.low) }

pub shift_from : (start : ℕ) (x departure : ℤ) → x ≡ pos start → start < clock_end → IsWithin clock_end departure
    → to_z w64 (of_z w64 (to_z w64 (of_z w64 x) -ℤ to_z w64 (of_z w64 departure))) ≡ (pos start -ℤ departure)
shift_from start x departure e s d =
    rw (e, to_z-of_z w64 (pos start) (fits clock_end (pos start) (lit< tt) (natural_within clock_end start (omega (arith, s)))), to_z-of_z w64 departure (fits clock_end departure (lit< tt) d))
    (to_z-of_z w64 (pos start -ℤ departure) (fits (2 * clock_end) (pos start -ℤ departure) (lit< tt) (shift_within start departure s d)))

-- the runs of a trip whose service runs on the day, or doesn't
module _ (trips : List Trip) (calls : List (List Call)) (headways : List HeadwayRow) (day : ServiceDay) (n : ℕ) (trip : Trip) (own : List Call) (t : slice_get trips n ≡ Some trip) (o : slice_get calls n ≡ Some own) where
  trip_at : runs_at trips calls headways day n ≡ runs_of_trip day n (Some trip) (Some own) (starts_of headways n)
  trip_at = rw (t, o) refl

  pub not_running : is_among day.services trip.service ≡ false → runs_at trips calls headways day n ≡ []
  not_running h = trip_at ∙ rw h refl

  pub running : is_among day.services trip.service ≡ true → runs_at trips calls headways day n ≡ map (run_from day n own) (starts_of headways n)
  running h = trip_at ∙ rw h refl

pub starts_none : (rows : List HeadwayRow) → length rows ≡ 0 → starts_by rows ≡ None ∷ []
starts_none [] none = refl
starts_none (row ∷ rows) none = absurd (omega (arith, none))

pub starts_some : (rows : List HeadwayRow) → (length rows ≡ 0 → ⊥) → starts_by rows ≡ map (λ (start : ℕ). Some start) (starts_in rows)
starts_some [] some = absurd (some refl)
starts_some (row ∷ rows) some = refl

below_end : (p : ℕ → Bool) (end : ℕ) → All (λ start. start < end) (filter p (range_with_len 0 end))
below_end p end =
    All-filter p (λ n. n < end) (range_with_len 0 end)
    (All-from_get_or (λ n. n < end) (range_with_len 0 end) 0 (λ k below. by k (subst (λ (m : ℕ). k < m) (length-range_with_len 0 end) below)))
  where
    by : (k : ℕ) → k < end → get_or (range_with_len 0 end) k 0 < end
    by k below = rw (get_or-range_with_len 0 end k 0 below) (omega (arith, below))

pub starts_clock : (rows : List HeadwayRow) → All (λ start. start < clock_end) (starts_in rows)
unfolding starts_in
starts_clock rows = below_end (is_start rows) clock_end
