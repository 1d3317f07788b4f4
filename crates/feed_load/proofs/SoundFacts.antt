-- The runs of sound trips over sound days are sound, and rise by their names.
use Rattle.std.proofs.Common.{◌≡◌, ℕ, suc, ◌+◌, ◌*◌, ◌^◌, ◌<◌, ◌≤◌, ℤ, pos, ◌+ℤ◌, ◌≤ℤ◌, ◌<ℤ◌, List, [], ◌∷◌, ◌++◌, length, map, get_or, zero-add, Option, None, Some, Bool, true, false, cond, refl, sym, subst, ap, ◌∙◌, inl, inr, arith}
use Rattle.std.specs.List.{All, AllPairs, filter, flat_map, range_with_len, slice_get}
use Rattle.std.specs.Cmp.{int_cmp_is, nat_cmp_is}
use Rattle.std.specs.Option.{option_cmp}
use Rattle.std.specs.Ordering.{nat_cmp, ordering_then}
use Rattle.std.specs.declared.cmp.Ordering.{Ordering}
use Rattle.std.specs.declared.cmp.Ordering.TheVariants.{Less, Equal}
use Rattle.std.proofs.lemmas.Int.{ints}
use Rattle.std.proofs.lemmas.List.{get_or-map, length-map}
use Rattle.std.proofs.lemmas.List.Elements.{All-append, All-cons, All-head, All-map, All-nil, All-tail}
use Rattle.std.proofs.lemmas.List.FromFn.{get_or-map-range_with_len, get_or-range_with_len, length-map-range_with_len, length-range_with_len}
use Rattle.std.proofs.lemmas.List.Kept.{AllPairs-cons, AllPairs-from_increasing, IsStrictlyIncreasing-filter}
use Rattle.std.proofs.lemmas.Option.{get_or_from_slice_get, slice_get_within}
use Rattle.gtfs_links.specs.declared.feed.HeadwayRow.{HeadwayRow}
use Rattle.gtfs_links.specs.declared.feed.Linked.{Linked}
use Rattle.gtfs_links.specs.Resolved.{IsResolved}
use Rattle.otp_model.specs.Limits.{clock_end}
use Rattle.otp_model.specs.Names.{IsNameBelow, kind_of, number_of}
use Rattle.otp_model.specs.Ranges.{AreOptionsInRange}
use Rattle.otp_model.specs.Rows.{IsClock, IsWithin}
use Rattle.otp_model.specs.Sound.{IsLaterCall, IsRunBelow, IsSound, IsSoundCall, IsSoundRun}
use Rattle.otp_model.specs.declared.links.TransferRow.{TransferRow}
use Rattle.otp_model.specs.declared.options.Options.{Options}
use Rattle.otp_model.specs.declared.run_name.RunName.{RunName}
use Rattle.otp_model.specs.declared.run_name.TripName.TheVariants.{Planned}
use Rattle.otp_model.specs.declared.tables.Tables.{Tables}
use Rattle.otp_model.specs.declared.timetable.Call.{Call}
use Rattle.otp_model.specs.declared.timetable.Run.{Run}
use Rattle.otp_model.specs.declared.timetable.Trip.{Trip}
use Rattle.walk_table.specs.Passed.{Counts}
use Rattle.feed_load.specs.declared.service_day.ServiceDay.{ServiceDay}
use Rattle.feed_load.specs.Loaded.{AreFew}
use Rattle.feed_load.specs.Runs.{AreSoundRuns, HasClock, IsEarlier, IsSoundDay, IsSoundTrip, call_count, call_from, days_of, is_among, run_from, runs_at, runs_of, runs_of_day, runs_of_trip, service_day, shift_of}
use Rattle.feed_load.specs.Starts.{is_start, starts_by, starts_in, starts_of, trip_of_headway}
use Rattle.feed_load.specs.ByTrip.{rows_by}
use Rattle.feed_load.proofs.CountFacts.{count-append}
use Rattle.feed_load.proofs.RisingLemmas.{rises_range}
use Rattle.feed_load.proofs.RunFacts.{instant_within, shift_within, starts_clock}

module _ {X Y : Type 0} (P : Y → Type 0) (f : X → List Y) where
  -- what holds of all that each gives holds of all that is gathered
  pub all_gathered : (xs : List X) → All (λ (x : X). All P (f x)) xs → All P (flat_map f xs)
  all_gathered [] h = All-nil P
  all_gathered (x ∷ xs) h = All-append P (f x) (flat_map f xs) (All-head (λ (x : X). All P (f x)) x xs h) (all_gathered xs (All-tail (λ (x : X). All P (f x)) x xs h))

module _ {Y : Type 0} (R : Y → Y → Type 0) where
  pairs_append : (xs ys : List Y) → AllPairs R xs → AllPairs R ys → All (λ (x : Y). All (R x) ys) xs → AllPairs R (xs ++ ys)
  pairs_append [] ys own other cross = other
  pairs_append (x ∷ xs) ys own other cross =
      AllPairs-cons R x (xs ++ ys)
      (All-append (R x) xs ys (λ k d less. own 0 (suc k) d (omega arith) (omega (arith, less))) (All-head (λ (z : Y). All (R z) ys) x xs cross))
      (pairs_append xs ys (λ i j d less within. own (suc i) (suc j) d (omega (arith, less)) (omega (arith, within))) other (All-tail (λ (z : Y). All (R z) ys) x xs cross))

  -- pairs of what is gathered: of what one gives, and of what one and a later one give
  pub pairs_gathered : {X : Type 0} (f : X → List Y) (xs : List X) → All (λ (x : X). AllPairs R (f x)) xs
      → AllPairs (λ (a : X) (b : X). All (λ (x : Y). All (R x) (f b)) (f a)) xs → AllPairs R (flat_map f xs)
  pairs_gathered f [] own cross = λ i j d less within. absurd (omega (arith, within))
  pairs_gathered {X} f (x ∷ xs) own cross =
      pairs_append (f x) (flat_map f xs) (All-head (λ (z : X). AllPairs R (f z)) x xs own)
      (pairs_gathered f xs (All-tail (λ (z : X). AllPairs R (f z)) x xs own) (λ i j d less within. cross (suc i) (suc j) d (omega (arith, less)) (omega (arith, within))))
      (λ k d less. all_gathered (R (get_or (f x) k d)) f xs (λ n e within. cross 0 (suc n) e (omega arith) (omega (arith, within)) k d less))

-- the sum of counts of which none is 0
pub length_within_count : (runs : List Run) → All (λ (run : Run). 0 < length run.calls) runs → length runs ≤ call_count runs
length_within_count [] h = omega arith
length_within_count (run ∷ runs) h =
    let more : call_count (run ∷ runs) ≡ call_count (run ∷ []) + call_count runs = count-append (run ∷ []) runs in
    let own : call_count (run ∷ []) ≡ length run.calls = zero-add (length run.calls) in
    omega (arith, more, own, All-head (λ (r : Run). 0 < length r.calls) run runs h, length_within_count runs (All-tail (λ (r : Run). 0 < length r.calls) run runs h))

-- ---- the order of names

decided : (o p : Ordering) → o ≡ Less → ordering_then o p ≡ Less
decided o p e = ap (λ (q : Ordering). ordering_then q p) e

tied : (o p : Ordering) → o ≡ Equal → p ≡ Less → ordering_then o p ≡ Less
tied o p e f = ap (λ (q : Ordering). ordering_then q p) e ∙ f

nat_less : (x y : ℕ) → x < y → nat_cmp x y ≡ Less
nat_less x y h = sym (nat_cmp_is x y Less h)

nat_same : (x y : ℕ) → x ≡ y → nat_cmp x y ≡ Equal
nat_same x y h = sym (nat_cmp_is x y Equal h)

-- one start is below another: of a trip that runs by headways
abbrev pub IsStartBelow : Option ℕ → Option ℕ → Type 0
IsStartBelow a b = option_cmp nat_cmp a b ≡ Less

module _ (a b : RunName) (m n : ℕ) (of_a : a.trip ≡ Planned m) (of_b : b.trip ≡ Planned n) where
  kinds : nat_cmp (kind_of a.trip) (kind_of b.trip) ≡ Equal
  kinds = nat_same (kind_of a.trip) (kind_of b.trip) (ap kind_of of_a ∙ sym (ap kind_of of_b))

  pub name_by_day : a.day <ℤ b.day → IsNameBelow a b
  name_by_day less = tied _ _ kinds (decided _ _ (sym (int_cmp_is a.day b.day Less less)))

  pub name_by_trip : a.day ≡ b.day → m < n → IsNameBelow a b
  name_by_trip same less =
      let numbers : number_of a.trip < number_of b.trip = rw (of_a, of_b) less in
      tied _ _ kinds (tied _ _ (sym (int_cmp_is a.day b.day Equal same)) (decided _ _ (nat_less (number_of a.trip) (number_of b.trip) numbers)))

  pub name_by_start : a.day ≡ b.day → m ≡ n → IsStartBelow a.start b.start → IsNameBelow a b
  name_by_start same one less =
      let numbers : number_of a.trip ≡ number_of b.trip = ap number_of of_a ∙ (one ∙ sym (ap number_of of_b)) in
      tied _ _ kinds (tied _ _ (sym (int_cmp_is a.day b.day Equal same)) (tied _ _ (nat_same (number_of a.trip) (number_of b.trip) numbers) (decided _ _ less)))

-- ---- the starts of a trip

some_rise : (xs : List ℕ) → AllPairs (λ (x : ℕ) (y : ℕ). x < y) xs → AllPairs IsStartBelow (map (λ (x : ℕ). Some x) xs)
some_rise xs rises = λ i j d less within.
    let few : j < length xs = omega (arith, length-map xs (λ (x : ℕ). Some x), within) in
    rw (get_or-map (λ (x : ℕ). Some x) xs i 0 d (omega (arith, less, few)), get_or-map (λ (x : ℕ). Some x) xs j 0 d few) (nat_less (get_or xs i 0) (get_or xs j 0) (rises i j 0 less few))

below_rise : (p : ℕ → Bool) (end : ℕ) → AllPairs (λ (x : ℕ) (y : ℕ). x < y) (filter p (range_with_len 0 end))
below_rise p end = AllPairs-from_increasing (filter p (range_with_len 0 end)) (IsStrictlyIncreasing-filter p (range_with_len 0 end) (rises_range end))

in_rise : (rows : List HeadwayRow) → AllPairs (λ (x : ℕ) (y : ℕ). x < y) (starts_in rows)
unfolding starts_in
in_rise rows = below_rise (is_start rows) clock_end

by_rise : (rows : List HeadwayRow) → AllPairs IsStartBelow (starts_by rows)
by_rise [] = λ i j d less within. absurd (omega (arith, less, within))
by_rise (row ∷ rows) = some_rise (starts_in (row ∷ rows)) (in_rise (row ∷ rows))

pub starts_rise : (headways : List HeadwayRow) (trip : ℕ) → AllPairs IsStartBelow (starts_of headways trip)
starts_rise headways trip = by_rise (rows_by trip_of_headway headways trip)

by_clock : (rows : List HeadwayRow) → All IsClock (starts_by rows)
by_clock [] = All-cons IsClock None [] tt (All-nil IsClock)
by_clock (row ∷ rows) = All-map IsClock (λ (x : ℕ). Some x) (starts_in (row ∷ rows)) (starts_clock (row ∷ rows))

pub starts_clocks : (headways : List HeadwayRow) (trip : ℕ) → All IsClock (starts_of headways trip)
starts_clocks headways trip = by_clock (rows_by trip_of_headway headways trip)

-- ---- the runs of a trip on a day

-- a run of a trip of this number on a day
pub record IsRunAt (stops trips : ℕ) (day : ServiceDay) (n : ℕ) (run : Run) : Type 0 where
  pub named : run.name.trip ≡ Planned n
  pub on : run.name.day ≡ day.day
  pub some : 0 < length run.calls
  pub sound : IsSoundRun stops trips run

shift_of_within : (start : Option ℕ) (own : List Call) → IsClock start → All HasClock own → IsWithin (2 * clock_end) (shift_of start own)
shift_of_within None own s clocks = record { low = omega (arith, ints); high = omega (arith, ints) }
shift_of_within (Some start) [] s clocks = record { low = omega (arith, ints); high = omega (arith, ints) }
shift_of_within (Some start) (first ∷ own) s clocks = shift_within start first.departure s (clocks 0 first (omega arith)).departure

sound_call : (stops : ℕ) (instant : ℤ) (call : Call) → IsWithin (2 ^ 35 + 2 * clock_end) instant → call.stop < stops → HasClock call → call.arrival ≤ℤ call.departure → IsSoundCall stops (call_from instant call)
sound_call stops instant call from stop clock stays = record {
  stop = stop;
  forward = omega (arith, ints, stays);
  low = omega (arith, ints, from.low, clock.arrival.low);
  high = omega (arith, ints, from.high, clock.departure.high);
}

later_call : (instant : ℤ) (a b : Call) → IsLaterCall a b → IsLaterCall (call_from instant a) (call_from instant b)
later_call instant a b later = record { rises = later.rises; forward = omega (arith, ints, later.forward) }

sound_run : (stops trips : ℕ) (day : ServiceDay) (n : ℕ) (own : List Call) (start : Option ℕ) → n < trips → IsSoundDay day → IsSoundTrip stops own → IsClock start
    → IsRunAt stops trips day n (run_from day n own start)
sound_run stops trips day n own start less is sound clock =
    let instant : ℤ = day.start +ℤ shift_of start own in
    let from : IsWithin (2 ^ 35 + 2 * clock_end) instant = instant_within day.start (shift_of start own) is.starts (shift_of_within start own clock sound.clocks) in
    record {
      named = refl;
      on = refl;
      some = omega (arith, length-map own (call_from instant), sound.some);
      sound = record {
        name = record { number = n; planned = refl; trip = less; day = is.of_years; start = clock };
        calls = λ k d within.
            let few : k < length own = omega (arith, length-map own (call_from instant), within) in
            rw (get_or-map (call_from instant) own k d d few) (sound_call stops instant (get_or own k d) from (sound.stops_are k d few) (sound.clocks k d few) (sound.stays k d few));
        along = λ i j d before within.
            let few : j < length own = omega (arith, length-map own (call_from instant), within) in
            rw (get_or-map (call_from instant) own i d d (omega (arith, before, few)), get_or-map (call_from instant) own j d d few) (later_call instant (get_or own i d) (get_or own j d) (sound.along i j d before few));
      };
    }

module _ (stops : ℕ) (trips : List Trip) (calls : List (List Call)) (headways : List HeadwayRow) (sound : All (IsSoundTrip stops) calls) where
  -- the runs of the trip of a number
  at_place : (day : ServiceDay) (n : ℕ) → IsSoundDay day → n < length trips → All (IsRunAt stops (length trips) day n) (runs_at trips calls headways day n)
  at_place day n is less = by (slice_get trips n) (slice_get calls n) refl
    where
      here : (own : List Call) → slice_get calls n ≡ Some own → IsSoundTrip stops own
      here own h = subst (IsSoundTrip stops) (get_or_from_slice_get calls n own own h) (sound n own (slice_get_within calls n own h))

      by : (trip : Option Trip) (own : Option (List Call)) → slice_get calls n ≡ own → All (IsRunAt stops (length trips) day n) (runs_of_trip day n trip own (starts_of headways n))
      by None own h = All-nil (IsRunAt stops (length trips) day n)
      by (Some trip) None h = All-nil (IsRunAt stops (length trips) day n)
      by (Some trip) (Some own) h = one (is_among day.services trip.service)
        where
          one : (b : Bool) → All (IsRunAt stops (length trips) day n) (cond b (map (run_from day n own) (starts_of headways n)) [])
          one true = All-map (IsRunAt stops (length trips) day n) (run_from day n own) (starts_of headways n) (λ k d within. sound_run stops (length trips) day n own (get_or (starts_of headways n) k d) less is (here own h) (starts_clocks headways n k d within))
          one false = All-nil (IsRunAt stops (length trips) day n)

  -- they rise by their starts
  rise_at : (day : ServiceDay) (n : ℕ) → AllPairs IsRunBelow (runs_at trips calls headways day n)
  rise_at day n = by (slice_get trips n) (slice_get calls n)
    where
      by : (trip : Option Trip) (own : Option (List Call)) → AllPairs IsRunBelow (runs_of_trip day n trip own (starts_of headways n))
      by None own = λ i j d less within. absurd (omega (arith, within))
      by (Some trip) None = λ i j d less within. absurd (omega (arith, within))
      by (Some trip) (Some own) = one (is_among day.services trip.service)
        where
          one : (b : Bool) → AllPairs IsRunBelow (cond b (map (run_from day n own) (starts_of headways n)) [])
          one true = λ i j d less within.
              let starts : List (Option ℕ) = starts_of headways n in
              let few : j < length starts = omega (arith, length-map starts (run_from day n own), within) in
              rw (get_or-map (run_from day n own) starts i None d (omega (arith, less, few)), get_or-map (run_from day n own) starts j None d few)
              (name_by_start (run_from day n own (get_or starts i None)).name (run_from day n own (get_or starts j None)).name n n refl refl refl refl (starts_rise headways n i j None less few))
          one false = λ i j d less within. absurd (omega (arith, within))

  -- a run of the day
  abbrev pub IsRunOn : ServiceDay → Run → Type 0
  IsRunOn day run = (n : ℕ) × IsRunAt stops (length trips) day n run

  day_runs : (day : ServiceDay) → IsSoundDay day → All (IsRunOn day) (runs_of_day trips calls headways day)
  day_runs day is = all_gathered (IsRunOn day) (runs_at trips calls headways day) (range_with_len 0 (length trips)) (λ k d less.
      let few : k < length trips = omega (arith, length-range_with_len 0 (length trips), less) in
      let n : get_or (range_with_len 0 (length trips)) k d ≡ k = get_or-range_with_len 0 (length trips) k d few ∙ zero-add k in
      rw n (λ i e within. (k, at_place day k is few i e within)))

  -- the runs of a day rise
  day_rise : (day : ServiceDay) → IsSoundDay day → AllPairs IsRunBelow (runs_of_day trips calls headways day)
  day_rise day is =
      pairs_gathered IsRunBelow (runs_at trips calls headways day) (range_with_len 0 (length trips)) (λ k d less. rise_at day (get_or (range_with_len 0 (length trips)) k d)) (λ i j d less within.
      let few : j < length trips = omega (arith, length-range_with_len 0 (length trips), within) in
      let one : get_or (range_with_len 0 (length trips)) i d ≡ i = get_or-range_with_len 0 (length trips) i d (omega (arith, less, few)) ∙ zero-add i in
      let other : get_or (range_with_len 0 (length trips)) j d ≡ j = get_or-range_with_len 0 (length trips) j d few ∙ zero-add j in
      rw (one, other) (λ k e m n f o.
      let a = at_place day i is (omega (arith, less, few)) k e m in
      let b = at_place day j is few n f o in
      name_by_trip (get_or (runs_at trips calls headways day i) k e).name (get_or (runs_at trips calls headways day j) n f).name i j a.named b.named (a.on ∙ sym b.on) less))

  module _ (days : List ServiceDay) (are : All IsSoundDay days) where
    -- each run is one of some day
    all_runs : All (λ (run : Run). (day : ServiceDay) × IsRunOn day run) (runs_of trips calls headways days)
    all_runs = all_gathered (λ (run : Run). (day : ServiceDay) × IsRunOn day run) (runs_of_day trips calls headways) days (λ k d less i e within.
        (get_or days k d, day_runs (get_or days k d) (are k d less) i e within))

    runs_rise : AllPairs IsEarlier days → AllPairs IsRunBelow (runs_of trips calls headways days)
    runs_rise rise =
        pairs_gathered IsRunBelow (runs_of_day trips calls headways) days (λ k d less. day_rise (get_or days k d) (are k d less)) (λ i j d less within k e m n f o.
        let a = day_runs (get_or days i d) (are i d (omega (arith, less, within))) k e m in
        let b = day_runs (get_or days j d) (are j d within) n f o in
        let earlier : (get_or days i d).day <ℤ (get_or days j d).day = rise i j d less within in
        name_by_day (get_or (runs_of_day trips calls headways (get_or days i d)) k e).name (get_or (runs_of_day trips calls headways (get_or days j d)) n f).name a.0 b.0 a.1.named b.1.named (rw (a.1.on, b.1.on) earlier))

    pub sound_runs : AllPairs IsEarlier days → AreSoundRuns stops (length trips) (runs_of trips calls headways days)
    sound_runs rise = record {
      each = λ k d less. (all_runs k d less).1.1.sound;
      some = λ k d less. (all_runs k d less).1.1.some;
      rise = runs_rise rise;
    }

-- the days of a feed rise
pub days_rise : (tables : Tables) (options : Options) → AllPairs IsEarlier (days_of tables options)
days_rise tables options = λ i j d less within.
    let f : ℕ → ServiceDay = λ n. service_day tables options.zone (options.first_day +ℤ pos n) in
    let few : j < options.days = omega (arith, length-map-range_with_len f 0 options.days, within) in
    let one : get_or (days_of tables options) i d ≡ f i = get_or-map-range_with_len f 0 options.days i i d (omega (arith, less, few)) (zero-add i) in
    let other : get_or (days_of tables options) j d ≡ f j = get_or-map-range_with_len f 0 options.days j j d few (zero-add j) in
    let earlier : (options.first_day +ℤ pos i) <ℤ (options.first_day +ℤ pos j) = omega (arith, ints, less) in
    rw (one, other) earlier

few_passed : (P : TransferRow → Type 0) (rows : List TransferRow) (n : ℕ) → Counts P rows n → n ≤ length rows
few_passed P [] n h = omega (arith, h)
few_passed P (row ∷ rows) n (inl h) = omega (arith, few_passed P rows n h.1)
few_passed P (row ∷ rows) n (inr h) = let same = h.1.1 in omega (arith, same, few_passed P rows h.1.0 h.1.2)

-- the numbers of rows passed over fit
pub passed_fits : (P : TransferRow → Type 0) (rows : List TransferRow) (n passed : ℕ) → Counts P rows n → length rows ≤ 2 ^ 29 → passed ≤ 2 ^ 31 → passed + n < 2 ^ 64
passed_fits P rows n passed counts few small = omega (arith, few_passed P rows n counts, few, small)

-- the feed of sound runs is sound
pub sound_feed : (linked : Linked) (options : Options) (runs : List Run) (first : ℤ) → IsResolved linked → AreOptionsInRange options → AreFew (length linked.stops) (length linked.trips) runs → AreSoundRuns (length linked.stops) (length linked.trips) runs
    → first ≡ options.first_day
    → IsSound (record { stops = linked.stops; trips = linked.trips; runs = runs; zone = options.zone; first_day = first; days = options.days })
sound_feed linked options runs first is within few sound same = record {
  few_stops = omega (arith, is.few_stops);
  few_trips = omega (arith, is.few_trips);
  few_runs = omega (arith, length_within_count runs sound.some, few.calls_are);
  parents = λ k d less. (is.stops k d less).parent;
  stop_ids = is.stop_ids;
  trip_ids = is.trip_ids;
  first_day = rw same within.first_day.0;
  last_day = rw same (last options.first_day options.days within.first_day.1 within.days.1);
  runs = sound.each;
  run_names = sound.rise;
}
  where
    last : (day : ℤ) (n : ℕ) → day ≤ℤ pos 375834 → n ≤ 31 → (day +ℤ pos n) ≤ℤ pos 376200
    last day n h k = omega (arith, ints, h, k)
