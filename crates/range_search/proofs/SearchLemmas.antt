-- Departures one after the other, the last one first.
use Rattle.std.proofs.Common.{◌≡◌, inl, inr, ℕ, ◌+◌, ◌-◌, ◌<◌, ℤ, ◌<ℤ◌, List, [], ◌∷◌, ◌++◌, Some, length, get_or, sym, subst, ◌∙◌, arith}
use Rattle.std.specs.List.{All, AllPairs, Contains, slice_get}
use Rattle.std.proofs.lemmas.Bool.{cases_lt}
use Rattle.std.proofs.lemmas.List.Elements.{All-contains_itself, All-weaker, Contains-append_left, Contains-push, Contains-push_cases}
use Rattle.std.proofs.lemmas.Option.{get_or_from_slice_get, same_Some, slice_get-get_or, slice_get_within}
use Rattle.otp_model.specs.declared.journey.Request.{Request}
use Rattle.otp_model.specs.declared.timetable.Edges.{Edges}
use Rattle.otp_model.specs.declared.timetable.Run.{Run}
use Rattle.trip_patterns.specs.Lanes.{LaneOf}
use Rattle.raptor_rounds.specs.declared.state.RoundState.{RoundState}
use Rattle.raptor_rounds.specs.Moments.{IsEarlier}
use Rattle.raptor_rounds.specs.States.{AreFinalsEnough, IsBefore, departures_of}
use Rattle.raptor_rounds.specs.Searched.{IsSearched}
use Rattle.range_search.specs.Searches.{AreSearched, IsMomentAfter}

-- the last moment but so many
pub last_but : (count seen : ℕ) → seen < count → count - seen ≡ (count - 1 - seen) + 1
last_but count seen less = omega (arith, less)

pub one_less : (count seen : ℕ) → count - 1 - seen ≡ count - (seen + 1)
one_less count seen = omega arith

pub moment_at : (moments : List ℤ) (k : ℕ) (d : ℤ) → k < length moments → slice_get moments k ≡ Some (get_or moments k d)
moment_at moments k d less = slice_get-get_or moments k d less

module _ (runs : List Run) (blocks : List (List LaneOf)) (edges : Edges) (r : Request) (moments : List ℤ) where
  pub searched_none : (s : RoundState) → IsSearched runs blocks edges r s → departures_of s ≡ [] → AreSearched runs blocks edges r moments (length moments) s
  searched_none s is none = record {
    searched = is;
    finals = λ v offered at. absurd (nothing v.departure at);
    seen = λ t. ((λ on. absurd (nothing t on)), (λ q. absurd (omega (arith, q.1, slice_get_within moments q.0 t q.2))));
  }
    where
      nothing : (t : ℤ) → Contains (departures_of s) t → ⊥
      nothing t on = let h : Contains [] t = rw none at on in absurd (omega (arith, h.1))

  -- each that was seen is later than the one before them
  pub later_all : AllPairs IsEarlier moments → (k : ℕ) (t : ℤ) (s : RoundState) → slice_get moments k ≡ Some t → ((u : ℤ) → Contains (departures_of s) u → IsMomentAfter moments (k + 1) u) → All (IsBefore t) (departures_of s)
  later_all rise k t s is seen =
      All-weaker (Contains (departures_of s)) (IsBefore t) (λ u on. let q = seen u on in
      subst (λ (z : ℤ). z <ℤ u) (get_or_from_slice_get moments k t u is) (subst (λ (z : ℤ). get_or moments k u <ℤ z) (get_or_from_slice_get moments q.0 u u q.2)
      (rise k q.0 u (omega (arith, q.1)) (slice_get_within moments q.0 u q.2)))) (departures_of s) (All-contains_itself (departures_of s))

  pub searched_more : (k : ℕ) (t : ℤ) (old new : RoundState) → slice_get moments k ≡ Some t → AreSearched runs blocks edges r moments (k + 1) old → IsSearched runs blocks edges r new
      → AreFinalsEnough runs edges r new → departures_of new ≡ departures_of old ++ t ∷ [] → AreSearched runs blocks edges r moments k new
  searched_more k t old new is was searched finals more = record {
    searched = searched;
    finals = finals;
    seen = λ u. (
      (λ on. elim (Contains-push_cases (departures_of old) t u (rw more at on)) [
        | inl before ↦ let q = (was.seen u).0 before in (q.0, omega (arith, q.1), q.2)
        | inr same ↦ (k, omega arith, subst (λ (z : ℤ). slice_get moments k ≡ Some z) same is)
      ]),
      (λ q. rw more (elim (cases_lt k q.0) [
        | inl after ↦ Contains-append_left (departures_of old) (t ∷ []) u ((was.seen u).1 (q.0, omega (arith, after), q.2))
        | inr no_later ↦ subst (λ (z : ℤ). Contains (departures_of old ++ t ∷ []) z) (one u q.0 (omega (arith, q.1, no_later)) q.2) (Contains-push (departures_of old) t)
      ])),
    );
  }
    where
      one : (u : ℤ) (j : ℕ) → j ≡ k → slice_get moments j ≡ Some u → t ≡ u
      one u j e h = same_Some t u (sym is ∙ subst (λ (n : ℕ). slice_get moments n ≡ Some u) e h)
