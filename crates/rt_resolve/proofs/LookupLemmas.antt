-- What the indices of a feed find.
use Rattle.std.proofs.Common.{◌≡◌, ℕ, ◌<◌, ◌≤◌, List, length, get_or, map, cond, None, Some, sym, ap, subst, ◌∙◌, arith}
use Rattle.std.specs.Prelude.{◌==◌}
use Rattle.otp_model.specs.Moves.{platform_of}
use Rattle.otp_model.specs.Resolution.{trip_of}
use Rattle.otp_model.specs.Sights.{place_of}
use Rattle.otp_model.specs.declared.timetable.Feed.{Feed}
use Rattle.otp_model.specs.declared.timetable.Stop.{Stop}
use Rattle.rt_resolve.specs.Indices.{id_of_stop, id_of_trip, IsIndexed}
use Rattle.rt_resolve.proofs.IndexLemmas.{pass_found, pass_missing, place_found, place_missing}

module _ (feed : Feed) (trips stops : List (List ℕ)) (indexed : IsIndexed feed trips stops) (id : List ℕ) (place : ℕ) where
  trip_place : place ≡ place_of trips id → place ≡ place_of (map id_of_trip feed.trips) id
  trip_place at = at ∙ ap (λ (ids : List (List ℕ)). place_of ids id) indexed.trip_ids

  stop_place : place ≡ place_of stops id → place ≡ place_of (map id_of_stop feed.stops) id
  stop_place at = at ∙ ap (λ (ids : List (List ℕ)). place_of ids id) indexed.stop_ids

  pub trip_there : place ≡ place_of trips id → place < length feed.trips → Some place ≡ trip_of feed id
  trip_there at less =
      let here = trip_place at in
      ap (λ (k : ℕ). Some k) (omega (arith, here)) ∙ sym (place_found id_of_trip feed.trips id 0 (omega (arith, here)))

  pub trip_missing : place ≡ place_of trips id → length feed.trips ≤ place → None ≡ trip_of feed id
  trip_missing at over = let here = trip_place at in sym (place_missing id_of_trip feed.trips id 0 (omega (arith, here)))

  pub platform_missing : place ≡ place_of stops id → length feed.stops ≤ place → None ≡ platform_of feed.stops id
  platform_missing at over =
      let here = stop_place at in sym (pass_missing id_of_stop (λ (stop : Stop). stop.kind == 0) feed.stops id 0 (omega (arith, here)))

  pub platform_there : (stop : Stop) → place ≡ place_of stops id → place < length feed.stops → stop ≡ get_or feed.stops place stop
      → cond (stop.kind == 0) (Some place) None ≡ platform_of feed.stops id
  platform_there stop at less is =
      let here = stop_place at in
      let found : stop ≡ get_or feed.stops (place_of (map id_of_stop feed.stops) id) stop = subst (λ (k : ℕ). stop ≡ get_or feed.stops k stop) here is in
      ap (λ (k : ℕ). cond (stop.kind == 0) (Some k) None) (omega (arith, here))
      ∙ sym (pass_found id_of_stop (λ (s : Stop). s.kind == 0) feed.stops id 0 stop indexed.sound.stop_ids (omega (arith, here)) found)
