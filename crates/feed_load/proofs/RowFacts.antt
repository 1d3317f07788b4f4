-- Rows with times and without, round a place.
use Rattle.std.proofs.Common.{◌≡◌, ℕ, ◌+◌, ◌<◌, ◌≤◌, List, length, Some, get_or, subst, sym, inl, inr, arith}
use Rattle.std.specs.List.{slice_get}
use Rattle.std.proofs.lemmas.Bool.{cases_lt}
use Rattle.std.proofs.lemmas.Option.{slice_get-get_or}
use Rattle.otp_model.specs.declared.links.TimeRow.{TimeRow}
use Rattle.otp_model.specs.declared.timetable.Call.{Call}
use Rattle.feed_load.specs.declared.gap.Anchor.{Anchor}
use Rattle.feed_load.specs.declared.trip_calls.Ends.{Ends}
use Rattle.feed_load.specs.Anchors.{AreEnds, IsLeft, IsReached}
use Rattle.feed_load.specs.Calls.{GivesTimesAt, HasEnds, IsCallAt, IsCallOf, IsUntimed, IsUntimedAt, time_in_gap}

pub untimed_at : (rows : List TimeRow) (place : ℕ) (d : TimeRow) → place < length rows → IsUntimed (get_or rows place d) → IsUntimedAt rows place
untimed_at rows place d less untimed = (get_or rows place d, slice_get-get_or rows place d less, untimed)

-- a row doesn't both give times and none
timed_once : (rows : List TimeRow) (place arrival departure : ℕ) → GivesTimesAt rows place arrival departure → IsUntimedAt rows place → ⊥
timed_once rows place arrival departure gives untimed =
    let same : gives.row ≡ untimed.0 = cc (gives.stands, untimed.1) in
    let none = subst IsUntimed (sym same) untimed.2 in
    absurd (cc (gives.gives.arrives, none))

-- a row without times leaves the row before it that gives them
pub left_stays : (rows : List TimeRow) (place : ℕ) (left : Anchor) → IsLeft rows place left → IsUntimedAt rows place → IsLeft rows (place + 1) left
left_stays rows place left is untimed = record {
  before = omega (arith, is.before);
  gives = is.gives;
  small = is.small;
  between = λ k after before. elim (cases_lt k place) [
    | inl less ↦ is.between k after less
    | inr more ↦ let same : place ≡ k = omega arith in subst (IsUntimedAt rows) same untimed
  ];
}

-- and the row behind it that gives them
pub reached_stays : (rows : List TimeRow) (place next : ℕ) (reached : Anchor) → next ≤ place + 1 → IsReached rows next reached → place ≤ next → IsUntimedAt rows place → IsReached rows place reached
reached_stays rows place next reached step is from untimed = record {
  behind = omega (arith, is.behind);
  within = is.within;
  gives = is.gives;
  small = is.small;
  between = λ k after before. elim (cases_lt k next) [
    | inl less ↦ let same : place ≡ k = omega arith in subst (IsUntimedAt rows) same untimed
    | inr more ↦ is.between k more before
  ];
}

-- where left and reached round a place without times stand
pub left_before : (rows : List TimeRow) (place : ℕ) (left : Anchor) → IsLeft rows place left → IsUntimedAt rows place → left.place < place
left_before rows place left l here =
    elim (cases_lt left.place place) [ inl less ↦ less | inr more ↦ let same : left.place ≡ place = omega (arith, l.before, more) in absurd (timed_once rows left.place l.gives.0 left.time l.gives.1 (subst (IsUntimedAt rows) (sym same) here)) ]

pub reached_behind : (rows : List TimeRow) (place : ℕ) (reached : Anchor) → IsReached rows place reached → IsUntimedAt rows place → place < reached.place
reached_behind rows place reached r here =
    elim (cases_lt place reached.place) [ inl less ↦ less | inr more ↦ let same : reached.place ≡ place = omega (arith, r.behind, more) in absurd (timed_once rows reached.place reached.time r.gives.0 r.gives.1 (subst (IsUntimedAt rows) (sym same) here)) ]

-- the call of a row without times stands in the gap between its neighbours with times
pub filled_call : (rows : List TimeRow) (place : ℕ) (left reached : Anchor) (row : TimeRow) (call : Call) → slice_get rows place ≡ Some row → IsUntimed row
    → IsLeft rows place left → IsReached rows place reached → IsCallOf row call
    → call.arrival ≡ time_in_gap left.place reached.place left.time reached.time place → call.departure ≡ time_in_gap left.place reached.place left.time reached.time place
    → IsCallAt rows place call
filled_call rows place left reached row call stands untimed l r of arrives departs = record {
  row = row;
  stands = stands;
  is = of;
  times = inr (record {
    untimed = here;
    from = left.place;
    to = reached.place;
    start = left.time;
    end = reached.time;
    gap = record {
      ends = omega (arith, after, before);
      left = l.gives;
      reached = r.gives;
      between = λ k a b. elim (cases_lt k place) [
        | inl less ↦ l.between k a less
        | inr more ↦ r.between k more b
      ];
    };
    after = after;
    before = before;
    arrives = arrives;
    departs = departs;
  });
}
  where
    here : IsUntimedAt rows place
    here = (row, stands, untimed)

    after : left.place < place
    after = left_before rows place left l here

    before : place < reached.place
    before = reached_behind rows place reached r here

pub ends_have : (rows : List TimeRow) (ends : Ends) → AreEnds rows ends → HasEnds rows
ends_have rows ends are = record {
  first = (are.first.0, ends.departure, are.first.1);
  last = (ends.arrival, are.last.0, are.last.1);
}
