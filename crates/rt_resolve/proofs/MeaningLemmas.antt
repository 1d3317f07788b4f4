-- Updates that mean a call, and their events.
use Rattle.std.proofs.Common.{◌≡◌, ℕ, ◌+◌, ◌<◌, ◌≤◌, List, [], ◌∷◌, ◌++◌, length, get_or, drop, map, None, Some, refl, sym, ap, ◌∙◌, append_assoc, zero, suc, subst, arith}
use Rattle.std.specs.Prelude.{IsTrue, ◌&&◌}
use Rattle.std.specs.List.{position_from}
use Rattle.std.proofs.lemmas.List.{append-nil, drop_all, map-append}
use Rattle.name_index.proofs.TestFacts.{and-left, and-right}
use Rattle.otp_model.specs.Moves.{are_events, is_event, Meant, meant_from, means}
use Rattle.otp_model.specs.declared.message.StopUpdate.{StopUpdate}
use Rattle.otp_model.specs.declared.timetable.Call.{Call}
use Rattle.otp_model.specs.declared.timetable.Stop.{Stop}
use Rattle.rt_resolve.specs.Meaning.{HasEvents, meant_of}
use Rattle.rt_resolve.specs.declared.meaning.Meant.{Meant as MeantBy}
use Rattle.rt_resolve.proofs.ListLemmas.{drop_here}

-- each update of a list whose events are all in range
pub events_at : (updates : List StopUpdate) (i : ℕ) (update : StopUpdate) → IsTrue (are_events updates) → i < length updates
    → update ≡ get_or updates i update → HasEvents update
events_at [] i update all less is = absurd (omega arith)
events_at (first ∷ updates) zero update all less is =
    let both = and-left (is_event first.arrival && is_event first.departure) (are_events updates) all in
    subst HasEvents (sym is) (record { arrival = and-left (is_event first.arrival) (is_event first.departure) both; departure = and-right (is_event first.arrival) (is_event first.departure) both })
events_at (first ∷ updates) (suc i) update all less is =
    events_at updates i update (and-right (is_event first.arrival && is_event first.departure) (are_events updates) all) (omega arith) is

module _ (stops : List Stop) (calls : List Call) where
  -- an update that means no call is passed over
  pub none_meant : (from i : ℕ) (updates : List StopUpdate) (update : StopUpdate) → i < length updates → update ≡ get_or updates i update
      → position_from (means stops update) from (drop from calls) ≡ None
      → meant_from stops calls from (drop i updates) ≡ meant_from stops calls from (drop (i + 1) updates)
  unfolding meant_from
  none_meant from i updates update less is none = rw (drop_here updates i update less is) (rw none refl)

  -- one that means a call is noted with its place, and the search goes on behind it
  pub one_meant : (from i : ℕ) (updates : List StopUpdate) (update : StopUpdate) (place : ℕ) → i < length updates → update ≡ get_or updates i update
      → position_from (means stops update) from (drop from calls) ≡ Some place
      → meant_from stops calls from (drop i updates) ≡ record { place = place; update = update } ∷ meant_from stops calls (place + 1) (drop (i + 1) updates)
  unfolding meant_from
  one_meant from i updates update place less is some = rw (drop_here updates i update less is) (rw some refl)

  -- where no update is left none is meant
  pub none_left : (from i : ℕ) (updates : List StopUpdate) (meant : List Meant) → length updates ≤ i
      → meant ++ meant_from stops calls from (drop i updates) ≡ meant
  unfolding meant_from
  none_left from i updates meant over = rw (drop_all i updates over) (append-nil meant)

-- an update put behind others
pub put_meant : (meant after : List MeantBy) (one : MeantBy) (rest : List Meant)
    → after ≡ meant ++ one ∷ [] → map meant_of after ++ rest ≡ map meant_of meant ++ (meant_of one ∷ rest)
put_meant meant after one rest same =
    ap (λ (ms : List MeantBy). map meant_of ms ++ rest) same
    ∙ ap (λ (ms : List Meant). ms ++ rest) (map-append meant_of meant (one ∷ []))
    ∙ append_assoc (map meant_of meant) (meant_of one ∷ []) rest
