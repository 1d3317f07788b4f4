-- Calls that updates move, or that messages give, stay at the feed's stops and within bounds, and no time falls along them.
use Rattle.std.proofs.Common.{◌≡◌, ℕ, suc, ◌+◌, ◌^◌, ◌<◌, ℤ, pos, ◌-ℤ◌, ◌≤ℤ◌, List, [], ◌∷◌, length, drop, ltb, cond, Bool, true, false, ◌&&◌, ◌==◌, int_le, if◌then◌else◌, neg_ℤ, Option, Some, None, IfSome, unwrap_or, refl, sym, subst, ◌∙◌, arith, true≢false}
use Rattle.std.specs.List.{All, AllPairs, position_from, position_or_len}
use Rattle.std.specs.Int.{int_max}
use Rattle.std.specs.Option.{option_map_or}
use Rattle.std.proofs.lemmas.Int.{int_max_is, ints}
use Rattle.std.proofs.lemmas.List.Elements.{All-cons, All-nil}
use Rattle.std.proofs.lemmas.List.Kept.{AllPairs-cons}
use Rattle.std.proofs.lemmas.Bool.{ltb-true}
use Rattle.std.proofs.lemmas.Iterator.Adapters.{position_from-zero}
use Rattle.std.specs.Str.{bytes_eq}
use Rattle.otp_base.specs.Optionals.{◌>>=◌}
use Rattle.otp_model.specs.Moves.{Meant, Moved, are_events, event_time, first_of, given_call, given_from, is_delay, is_event_time, is_served, platform_of, behind, delay_of, here, is_event, meant_from, means, moved_along, moved_at, moved_by, moved_calls, moved_from, predicted, raised, raised_above, shifted, skipped}
use Rattle.otp_model.specs.Rows.{IsWithin}
use Rattle.otp_model.specs.Sound.{IsServedCall, IsSoundCall}
use Rattle.otp_model.specs.declared.message.Event.{Event}
use Rattle.otp_model.specs.declared.message.StopUpdate.{StopUpdate}
use Rattle.otp_model.specs.declared.timetable.Call.{Call}
use Rattle.otp_model.specs.declared.timetable.Stop.{Stop}

-- a delay that an event can bring to a call of a feed
abbrev IsDelay : ℤ → Type 0
IsDelay delay = IsWithin (2 ^ 40 + 2 ^ 36) delay

-- a call at a stop of the feed, with times that don't yet come one after the other
record IsFar (stops : ℕ) (call : Call) : Type 0 where
  stop : call.stop < stops
  arrival : IsWithin (2 ^ 41) call.arrival
  departure : IsWithin (2 ^ 41) call.departure

head : {X : Type 0} (P : X → Type 0) (x : X) (xs : List X) → All P (x ∷ xs) → P x
head P x xs all = all 0 x (omega arith)

tail : {X : Type 0} (P : X → Type 0) (x : X) (xs : List X) → All P (x ∷ xs) → All P xs
tail P x xs all = λ k d less. all (suc k) d (omega (arith, less))

-- ---- raising

max_first : (a b : ℤ) → a ≤ℤ int_max a b
max_first a b = let is = int_max_is a b in omega (arith, ints, is)

max_within : (limit : ℕ) (a b : ℤ) → IsWithin limit a → IsWithin limit b → IsWithin limit (int_max a b)
max_within limit a b h k = let is = int_max_is a b in record { low = omega (arith, ints, is, h.low, k.low); high = omega (arith, ints, is, h.high, k.high) }

abbrev IsForward : Call → Call → Type 0
IsForward earlier later = earlier.departure ≤ℤ later.arrival

-- served calls behind a time, that come one after the other
record AreRaised (stops : ℕ) (time : ℤ) (calls : List Call) : Type 0 where
  served : All (IsServedCall stops) calls
  later : All (λ (call : Call). time ≤ℤ call.arrival) calls
  along : AllPairs IsForward calls

above : (stops : ℕ) (time : ℤ) (calls : List Call) → IsWithin (2 ^ 41) time → All (IsFar stops) calls → AreRaised stops time (raised_above time calls)
unfolding raised_above
above stops time [] h all = record {
  served = All-nil (IsServedCall stops);
  later = All-nil (λ (call : Call). time ≤ℤ call.arrival);
  along = λ i j d less within. absurd (omega (arith, within));
}
above stops time (call ∷ calls) h all =
    let far = head (IsFar stops) call calls all in
    let arrival : ℤ = int_max time call.arrival in
    let departure : ℤ = int_max arrival call.departure in
    let early = max_within (2 ^ 41) time call.arrival h far.arrival in
    let late = max_within (2 ^ 41) arrival call.departure early far.departure in
    let rest = above stops departure calls late (tail (IsFar stops) call calls all) in
    let now : Call = record call { arrival = arrival; departure = departure } in
    record {
      served = All-cons (IsServedCall stops) now (raised_above departure calls)
          (record { stop = far.stop; forward = max_first arrival call.departure; low = early.low; high = late.high }) rest.served;
      later = All-cons (λ (c : Call). time ≤ℤ c.arrival) now (raised_above departure calls) (max_first time call.arrival)
          (λ k d less. let m = rest.later k d less in let a = max_first time call.arrival in let b = max_first arrival call.departure in omega (arith, ints, m, a, b));
      along = AllPairs-cons IsForward now (raised_above departure calls) rest.later rest.along;
    }

-- calls that come one after the other, at stops of the feed
pub record AreCourse (stops : ℕ) (calls : List Call) : Type 0 where
  pub served : All (IsServedCall stops) calls
  pub along : AllPairs (λ (earlier later : Call). earlier.departure ≤ℤ later.arrival) calls

raised_course : (stops : ℕ) (calls : List Call) → All (IsFar stops) calls → AreCourse stops (raised calls)
raised_course stops [] all = record { served = All-nil (IsServedCall stops); along = λ i j d less within. absurd (omega (arith, within)) }
raised_course stops (call ∷ calls) all =
    let r = above stops call.arrival (call ∷ calls) (head (IsFar stops) call calls all).arrival all in
    record { served = r.served; along = r.along }

-- ---- moving

-- the events of an update are in range
record HasEvents (update : StopUpdate) : Type 0 where
  arrival : is_event update.arrival ≡ true
  departure : is_event update.departure ≡ true

pub both : (a b : Bool) → (a && b) ≡ true → (a ≡ true) × (b ≡ true)
both true true h = (refl, refl)
both true false h = absurd (true≢false (sym h))
both false b h = absurd (true≢false (sym h))

delay_given : (planned : ℤ) (event : Option Event) (other : ℤ) → IsWithin (2 ^ 36) planned → is_event event ≡ true → IsDelay other → IsDelay (unwrap_or (delay_of planned event) other)
delay_given planned None other near range h = h
delay_given planned (Some event) other near range h =
    let parts = both (option_map_or is_delay event.delay true) (option_map_or is_event_time event.time true) range in
    from event.time event.delay parts.1 parts.0
  where
    from : (time delay : Option ℤ) → option_map_or is_event_time time true ≡ true → option_map_or is_delay delay true ≡ true
        → IsDelay (unwrap_or (option_map_or (λ (t : ℤ). Some (t -ℤ planned)) time delay) other)
    from None None t d = h
    from None (Some delay) t d =
        let r = both (int_le (neg_ℤ (pos (2 ^ 31))) delay) (int_le delay (pos 2147483647)) d in
        record { low = omega (arith, ints, r.0); high = omega (arith, ints, r.1) }
    from (Some time) delay t d =
        let r = both (int_le (pos 0) time) (int_le time (pos (2 ^ 40))) t in
        record { low = omega (arith, ints, r.0, near.high); high = omega (arith, ints, r.1, near.low) }

-- a call of the feed moved by delays
call_moved : (stops : ℕ) (arrival departure : ℤ) (call : Call) → IsSoundCall stops call → IsDelay arrival → IsDelay departure → IsFar stops (shifted arrival departure call)
call_moved stops arrival departure call sound a d = record {
  stop = sound.stop;
  arrival = record { low = omega (arith, ints, sound.low, a.low); high = omega (arith, ints, sound.forward, sound.high, a.high) };
  departure = record { low = omega (arith, ints, sound.low, sound.forward, d.low); high = omega (arith, ints, sound.high, d.high) };
}

-- a moved call, and the delay that goes on
record IsMovedFar (stops : ℕ) (moved : Moved) : Type 0 where
  call : IsFar stops moved.call
  delay : IsDelay moved.delay

no_delay : IsDelay (pos 0)
no_delay = record { low = omega (arith, ints); high = omega (arith, ints) }

along_far : (stops : ℕ) (delay : ℤ) (call : Call) → IsSoundCall stops call → IsDelay delay → IsMovedFar stops (moved_along delay call)
along_far stops delay call sound h = record { call = call_moved stops delay delay call sound h h; delay = h }

skipped_far : (stops : ℕ) (delay : ℤ) (call : Call) → IsSoundCall stops call → IsDelay delay → IsMovedFar stops (skipped delay call)
skipped_far stops delay call sound h =
    let m = call_moved stops delay delay call sound h h in
    record { call = record { stop = m.stop; arrival = m.arrival; departure = m.departure }; delay = h }

predicted_far : (stops : ℕ) (delay : ℤ) (update : StopUpdate) (call : Call) → IsSoundCall stops call → HasEvents update → IsDelay delay → IsMovedFar stops (predicted delay update call)
predicted_far stops delay update call sound events h =
    let near_arrival : IsWithin (2 ^ 36) call.arrival = record { low = sound.low; high = omega (arith, ints, sound.forward, sound.high) } in
    let near_departure : IsWithin (2 ^ 36) call.departure = record { low = omega (arith, ints, sound.low, sound.forward); high = sound.high } in
    let a = delay_given call.arrival update.arrival delay near_arrival events.arrival h in
    let d = delay_given call.departure update.departure _ near_departure events.departure a in
    record { call = call_moved stops _ _ call sound a d; delay = d }

update_far : (stops : ℕ) (delay : ℤ) (update : StopUpdate) (call : Call) → IsSoundCall stops call → HasEvents update → IsDelay delay → IsMovedFar stops (moved_by delay update call)
update_far stops delay update call sound events h = from (update.relation == 1) (update.relation == 2)
  where
    from : (first second : Bool) → IsMovedFar stops (if first then skipped delay call else if second then moved_along (pos 0) call else predicted delay update call)
    from true second = skipped_far stops delay call sound h
    from false true = along_far stops (pos 0) call sound no_delay
    from false false = predicted_far stops delay update call sound events h

at_far : (stops : ℕ) (delay : ℤ) (update : Option StopUpdate) (call : Call) → IsSoundCall stops call → IfSome update HasEvents → IsDelay delay → IsMovedFar stops (moved_at delay update call)
at_far stops delay None call sound events h = along_far stops delay call sound h
at_far stops delay (Some update) call sound events h = update_far stops delay update call sound events h

abbrev MeansWithEvents : Meant → Type 0
MeansWithEvents meant = HasEvents meant.update

here_events : (place : ℕ) (meant : List Meant) → All MeansWithEvents meant → IfSome (here place meant) HasEvents
here_events place [] all = tt
here_events place (first ∷ rest) all = from (first.place == place)
  where
    from : (b : Bool) → IfSome (if b then Some first.update else None) HasEvents
    from true = head MeansWithEvents first rest all
    from false = tt

behind_events : (place : ℕ) (meant : List Meant) → All MeansWithEvents meant → All MeansWithEvents (behind place meant)
behind_events place [] all = all
behind_events place (first ∷ rest) all = from (first.place == place)
  where
    from : (b : Bool) → All MeansWithEvents (if b then rest else (first ∷ rest))
    from true = tail MeansWithEvents first rest all
    from false = all

from_far : (stops : ℕ) (delay : ℤ) (place : ℕ) (meant : List Meant) (calls : List Call) → All (IsSoundCall stops) calls → All MeansWithEvents meant → IsDelay delay
    → All (IsFar stops) (moved_from delay place meant calls)
unfolding moved_from
from_far stops delay place meant [] sound events h = All-nil (IsFar stops)
from_far stops delay place meant (call ∷ calls) sound events h =
    let m = at_far stops delay (here place meant) call (head (IsSoundCall stops) call calls sound) (here_events place meant events) h in
    All-cons (IsFar stops) _ _ m.call
    (from_far stops (moved_at delay (here place meant) call).delay (place + 1) (behind place meant) calls (tail (IsSoundCall stops) call calls sound) (behind_events place meant events) m.delay)

meant_events : (stops : List Stop) (calls : List Call) (from : ℕ) (updates : List StopUpdate) → are_events updates ≡ true → All MeansWithEvents (meant_from stops calls from updates)
unfolding meant_from
meant_events stops calls from [] events = All-nil MeansWithEvents
meant_events stops calls from (update ∷ updates) events =
    let parts = both (is_event update.arrival && is_event update.departure) (are_events updates) events in
    let own = both (is_event update.arrival) (is_event update.departure) parts.0 in
    found (position_from (means stops update) from (drop from calls)) (record { arrival = own.0; departure = own.1 })
    (λ behind. meant_events stops calls behind updates parts.1)
  where
    found : (place : Option ℕ) → HasEvents update → ((behind : ℕ) → All MeansWithEvents (meant_from stops calls behind updates))
        → All MeansWithEvents (option_map_or (λ place. record { place = place; update = update } ∷ meant_from stops calls (place + 1) updates) place (meant_from stops calls from updates))
    found None own rest = rest from
    found (Some place) own rest = All-cons MeansWithEvents (record { place = place; update = update }) (meant_from stops calls (place + 1) updates) own (rest (place + 1))

-- the calls of a run of a feed, moved by updates whose events are in range
pub moved_course : (stops : List Stop) (updates : List StopUpdate) (calls : List Call) → All (IsSoundCall (length stops)) calls → are_events updates ≡ true
    → AreCourse (length stops) (moved_calls stops updates calls)
moved_course stops updates calls sound events =
    raised_course (length stops) _ (from_far (length stops) (pos 0) 0 (meant_from stops calls 0 updates) calls sound (meant_events stops calls 0 updates events) no_delay)

-- ---- calls that a message alone gives

bind_some : {A B : Type 0} (o : Option A) (f : A → Option B) (y : B) → (o >>= f) ≡ Some y → (x : A) × (o ≡ Some x) × (f x ≡ Some y)
bind_some None f y h = absurd cc
bind_some (Some x) f y h = (x, refl, h)

-- a place that was found is within the list
found_within : {X : Type 0} (test : X → Bool) (xs : List X) (place : ℕ) → position_from test 0 xs ≡ Some place → place < length xs
found_within test xs place h = from (ltb (position_or_len test xs) (length xs)) refl (position_from-zero test xs ∙ h)
  where
    from : (b : Bool) → ltb (position_or_len test xs) (length xs) ≡ b
        → cond (ltb (position_or_len test xs) (length xs)) (Some (position_or_len test xs)) None ≡ Some place → place < length xs
    from true e h =
        let same : ◌≡◌ {A = Option ℕ} (Some (position_or_len test xs)) (Some place) = rw e at h in
        let is : position_or_len test xs ≡ place = cc in
        subst (λ n. n < length xs) is (ltb-true (position_or_len test xs) (length xs) e)
    from false e h = absurd (let never : ◌≡◌ {A = Option ℕ} None (Some place) = rw e at h in cc)

event_within : (event : Option Event) (time : ℤ) → is_event event ≡ true → event_time event ≡ Some time → IsWithin (2 ^ 41) time
event_within None time range h = absurd (let never : ◌≡◌ {A = Option ℤ} None (Some time) = h in cc)
event_within (Some event) time range h =
    let parts = both (option_map_or is_delay event.delay true) (option_map_or is_event_time event.time true) range in
    from event.time h parts.1
  where
    from : (own : Option ℤ) → own ≡ Some time → option_map_or is_event_time own true ≡ true → IsWithin (2 ^ 41) time
    from None e t = absurd (let never : ◌≡◌ {A = Option ℤ} None (Some time) = e in cc)
    from (Some other) e t =
        let r = both (int_le (pos 0) other) (int_le other (pos (2 ^ 40))) t in
        let is : other ≡ time = cc in
        subst (IsWithin (2 ^ 41)) is (record { low = omega (arith, ints, r.0); high = omega (arith, ints, r.1) })

first_within : (a b : Option ℤ) (time : ℤ) → ((t : ℤ) → a ≡ Some t → IsWithin (2 ^ 41) t) → ((t : ℤ) → b ≡ Some t → IsWithin (2 ^ 41) t) → first_of a b ≡ Some time → IsWithin (2 ^ 41) time
first_within None b time h k e = k time e
first_within (Some a) b time h k e = h time e

call_given : (stops : List Stop) (place : ℕ) (update : StopUpdate) (call : Call) → given_call stops place update ≡ Some call → HasEvents update → IsFar (length stops) call
call_given stops place update call h events =
    let served = bind_some (is_served update.relation) _ call h in
    let id = bind_some update.stop_id _ call served.2 in
    let stop = bind_some (platform_of stops id.0) _ call id.2 in
    let arrival = bind_some (first_of (event_time update.arrival) (event_time update.departure)) _ call stop.2 in
    let departure = bind_some (first_of (event_time update.departure) (event_time update.arrival)) _ call arrival.2 in
    let made : ◌≡◌ {A = Option Call} (Some (record { stop = stop.0; seq = place; arrival = arrival.0; departure = departure.0; board = served.0; alight = served.0 })) (Some call) = departure.2 in
    let is : record { stop = stop.0; seq = place; arrival = arrival.0; departure = departure.0; board = served.0; alight = served.0 } ≡ call = cc in
    let arrives = λ (t : ℤ) (e : event_time update.arrival ≡ Some t). event_within update.arrival t events.arrival e in
    let departs = λ (t : ℤ) (e : event_time update.departure ≡ Some t). event_within update.departure t events.departure e in
    subst (IsFar (length stops)) is (record {
      stop = found_within (λ (s : Stop). bytes_eq s.id id.0 && (s.kind == 0)) stops stop.0 stop.1;
      arrival = first_within (event_time update.arrival) (event_time update.departure) arrival.0 arrives departs arrival.1;
      departure = first_within (event_time update.departure) (event_time update.arrival) departure.0 departs arrives departure.1;
    })

given_far : (stops : List Stop) (place : ℕ) (updates : List StopUpdate) (calls : List Call) → given_from stops place updates ≡ Some calls → are_events updates ≡ true
    → All (IsFar (length stops)) calls
unfolding given_from
given_far stops place [] calls h events =
    let is : [] ≡ calls = cc in
    subst (All (IsFar (length stops))) is (All-nil (IsFar (length stops)))
given_far stops place (update ∷ updates) calls h events =
    let parts = both (is_event update.arrival && is_event update.departure) (are_events updates) events in
    let own = both (is_event update.arrival) (is_event update.departure) parts.0 in
    let first = bind_some (given_call stops place update) _ calls h in
    let rest = bind_some (given_from stops (place + 1) updates) _ calls first.2 in
    let made : ◌≡◌ {A = Option (List Call)} (Some (first.0 ∷ rest.0)) (Some calls) = rest.2 in
    let is : first.0 ∷ rest.0 ≡ calls = cc in
    subst (All (IsFar (length stops))) is
    (All-cons (IsFar (length stops)) first.0 rest.0 (call_given stops place update first.0 first.1 (record { arrival = own.0; departure = own.1 }))
    (given_far stops (place + 1) updates rest.0 rest.1 parts.1))

-- the calls of an added run, given by updates whose events are in range
pub given_course : (stops : List Stop) (place : ℕ) (updates : List StopUpdate) (calls : List Call) → given_from stops place updates ≡ Some calls → are_events updates ≡ true
    → AreCourse (length stops) (raised calls)
given_course stops place updates calls h events = raised_course (length stops) calls (given_far stops place updates calls h events)
