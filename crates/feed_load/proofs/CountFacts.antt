-- Counting calls up to a limit.
use Rattle.std.proofs.Common.{◌≡◌, ℕ, suc, zero, ◌+◌, ◌*◌, ◌<◌, ◌≤◌, ◌+ℤ◌, min, List, ◌∷◌, [], ◌++◌, Option, Some, Bool, true, false, cond, map, length, refl, sym, ap, ◌∙◌, inl, inr, arith}
use Rattle.std.specs.List.{count_by, flat_map, range_with_len, slice_get}
use Rattle.std.proofs.lemmas.List.{length-map}
use Rattle.std.proofs.lemmas.Bool.{cases_lt}
use Rattle.std.proofs.lemmas.List.Sums.{sum_by-append, sum_by-cons}
use Rattle.gtfs_links.specs.declared.feed.HeadwayRow.{HeadwayRow}
use Rattle.otp_model.specs.declared.timetable.Call.{Call}
use Rattle.otp_model.specs.declared.timetable.Run.{Run}
use Rattle.otp_model.specs.declared.timetable.Trip.{Trip}
use Rattle.feed_load.specs.declared.service_day.ServiceDay.{ServiceDay}
use Rattle.feed_load.specs.Runs.{call_count, call_from, is_among, run_from, runs_at, runs_of, runs_of_trip, shift_of}
use Rattle.feed_load.specs.Starts.{starts_of}
use Rattle.feed_load.proofs.RangeFacts.{gathered_more}

-- the runs of the trip of this number on all the days
abbrev pub runs_by_trip : List Trip → List (List Call) → List HeadwayRow → List ServiceDay → ℕ → List Run
runs_by_trip trips calls headways days n = flat_map (λ day. runs_at trips calls headways day n) days

pub count-append : (xs ys : List Run) → call_count (xs ++ ys) ≡ call_count xs + call_count ys
count-append xs ys = sum_by-append (λ (run : Run). length run.calls) xs ys

none_each : (ns : List ℕ) → call_count (flat_map (λ (n : ℕ). []) ns) ≡ 0
none_each [] = refl
none_each (n ∷ ns) = none_each ns

both_counted : (f g : ℕ → List Run) (ns : List ℕ) → call_count (flat_map (λ n. f n ++ g n) ns) ≡ call_count (flat_map f ns) + call_count (flat_map g ns)
both_counted f g [] = refl
both_counted f g (n ∷ ns) =
    omega (arith, both_counted f g ns, count-append (f n ++ g n) (flat_map (λ n. f n ++ g n) ns), count-append (f n) (g n), count-append (f n) (flat_map f ns), count-append (g n) (flat_map g ns))

-- day by day and trip by trip the calls are as many
swapped : {D : Type 0} (f : D → ℕ → List Run) (days : List D) (ns : List ℕ) → call_count (flat_map (λ (day : D). flat_map (f day) ns) days) ≡ call_count (flat_map (λ (n : ℕ). flat_map (λ (day : D). f day n) days) ns)
swapped {D} f [] ns = sym (none_each ns)
swapped {D} f (day ∷ days) ns =
    count-append (flat_map (f day) ns) (flat_map (λ (d : D). flat_map (f d) ns) days)
    ∙ (ap (λ (n : ℕ). call_count (flat_map (f day) ns) + n) (swapped f days ns)
    ∙ sym (both_counted (f day) (λ (n : ℕ). flat_map (λ (d : D). f d n) days) ns))

pub count_swapped : (trips : List Trip) (calls : List (List Call)) (headways : List HeadwayRow) (days : List ServiceDay)
    → call_count (runs_of trips calls headways days) ≡ call_count (flat_map (runs_by_trip trips calls headways days) (range_with_len 0 (length trips)))
count_swapped trips calls headways days = swapped (runs_at trips calls headways) days (range_with_len 0 (length trips))

-- the runs of one trip more
pub count_step : (f : ℕ → List Run) (n count new limit : ℕ) → count ≡ min (call_count (flat_map f (range_with_len 0 n))) limit → new ≡ min (count + call_count (f n)) limit
    → new ≡ min (call_count (flat_map f (range_with_len 0 (n + 1)))) limit
count_step f n count new limit so_far added =
    let all : call_count (flat_map f (range_with_len 0 (n + 1))) ≡ call_count (flat_map f (range_with_len 0 n)) + call_count (f n) =
    ap call_count (gathered_more f n) ∙ count-append (flat_map f (range_with_len 0 n)) (f n) in
    omega (arith, so_far, added, all)

times_next : (a b : ℕ) → a * suc b ≡ a + a * b
times_next a b = grind arith

next_times : (a b : ℕ) → suc a * b ≡ b + a * b
next_times a b = grind arith

sum_times : (a b c : ℕ) → (a + b) * c ≡ a * c + b * c
sum_times a b c = grind arith

-- the calls of the runs at some starts
at_starts : (day : ServiceDay) (n : ℕ) (own : List Call) (starts : List (Option ℕ)) → call_count (map (run_from day n own) starts) ≡ length own * length starts
at_starts day n own [] = omega arith
at_starts day n own (start ∷ starts) =
    let first : length (run_from day n own start).calls ≡ length own = length-map own (call_from (day.start +ℤ shift_of start own)) in
    sum_by-cons (λ (run : Run). length run.calls) (run_from day n own start) (map (run_from day n own) starts)
    ∙ (ap (λ (k : ℕ). k + call_count (map (run_from day n own) starts)) first
    ∙ (ap (λ (k : ℕ). length own + k) (at_starts day n own starts) ∙ sym (times_next (length own) (length starts))))

pub count_of_trip : (n : ℕ) (trip : Trip) (own : List Call) (starts : List (Option ℕ)) (days : List ServiceDay)
    → call_count (flat_map (λ (day : ServiceDay). runs_of_trip day n (Some trip) (Some own) starts) days) ≡ count_by (λ (day : ServiceDay). is_among day.services trip.service) days * (length own * length starts)
count_of_trip n trip own starts [] = omega arith
count_of_trip n trip own starts (day ∷ days) =
    let each : ℕ = length own * length starts in
    let runs : Bool → ℕ = λ b. cond b 1 0 in
    let rest : List Run = flat_map (λ (d : ServiceDay). runs_of_trip d n (Some trip) (Some own) starts) days in
    let more : ℕ = count_by (λ (d : ServiceDay). is_among d.services trip.service) days in
    count-append (runs_of_trip day n (Some trip) (Some own) starts) rest
    ∙ (ap (λ (k : ℕ). k + call_count rest) (here (is_among day.services trip.service))
    ∙ (ap (λ (k : ℕ). runs (is_among day.services trip.service) * each + k) (count_of_trip n trip own starts days)
    ∙ (sym (sum_times (runs (is_among day.services trip.service)) more each)
    ∙ ap (λ (k : ℕ). k * each) (sym (sum_by-cons (λ (d : ServiceDay). cond (is_among d.services trip.service) 1 0) day days)))))
  where
    here : (b : Bool) → call_count (cond b (map (run_from day n own) starts) []) ≡ cond b 1 0 * (length own * length starts)
    here true = at_starts day n own starts ∙ omega arith
    here false = omega arith

pub trip_count : (trips : List Trip) (calls : List (List Call)) (headways : List HeadwayRow) (days : List ServiceDay) (n : ℕ) (trip : Trip) (own : List Call) → slice_get trips n ≡ Some trip → slice_get calls n ≡ Some own
    → call_count (runs_by_trip trips calls headways days n) ≡ count_by (λ (day : ServiceDay). is_among day.services trip.service) days * (length own * length (starts_of headways n))
trip_count trips calls headways days n trip own t o =
    (λ i. call_count (flat_map (λ (day : ServiceDay). runs_of_trip day n (t i) (o i) (starts_of headways n)) days)) ∙ count_of_trip n trip own (starts_of headways n) days

-- products that stop at the end of the numbers count as the products do, up to a lower limit
pub capped : (count days calls starts limit end : ℕ) → limit ≤ end → min (count + min (days * min (calls * starts) end) end) limit ≡ min (count + days * (calls * starts)) limit
capped count days calls starts limit end below = elim (cases_lt end (calls * starts)) [
  | inl above ↦
      let most : min (calls * starts) end ≡ end = omega (arith, above) in
      rw most (beyond days (calls * starts) above)
  | inr within ↦
      let same : min (calls * starts) end ≡ calls * starts = omega (arith, within) in
      rw same (stopped (days * (calls * starts)))
]
  where
    stopped : (n : ℕ) → min (count + min n end) limit ≡ min (count + n) limit
    stopped n = omega (arith, below)

    beyond : (d n : ℕ) → end < n → min (count + min (d * end) end) limit ≡ min (count + d * n) limit
    beyond zero n above = omega arith
    beyond (suc d) n above = omega (arith, below, above, next_times d end, next_times d n)

pub capped_all : (count days calls starts limit end each more sum result total : ℕ) → limit ≤ end → each ≡ min (calls * starts) end → more ≡ min (days * each) end → sum ≡ min (count + more) end → result ≡ min sum limit
    → total ≡ days * (calls * starts) → result ≡ min (count + total) limit
capped_all count days calls starts limit end each more sum result total below e m s r t =
    let within : result ≡ min (count + more) limit = omega (arith, below, s, r) in
    within
    ∙ (ap (λ (n : ℕ). min (count + n) limit) (m ∙ ap (λ (n : ℕ). min (days * n) end) e)
    ∙ (capped count days calls starts limit end below ∙ ap (λ (n : ℕ). min (count + n) limit) (sym t)))

-- nothing more to count
pub capped_none : (count days each limit total : ℕ) → count ≤ limit → total ≡ days * each → days ≡ 0 → count ≡ min (count + total) limit
capped_none count days each limit total few t none =
    let nothing : total ≡ 0 * each = t ∙ ap (λ (n : ℕ). n * each) none in
    omega (arith, few, nothing)
