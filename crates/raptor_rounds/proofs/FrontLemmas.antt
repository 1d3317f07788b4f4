-- Fronts of the finals, and what is lost by them.
use Rattle.std.proofs.Common.{◌≡◌, inl, inr, ℕ, ◌+◌, ◌*◌, ◌^◌, neg_ℤ, ◌≤◌, ◌<◌, ℤ, pos, ◌+ℤ◌, ◌≤ℤ◌, List, [], ◌∷◌, ◌++◌, Some, length, refl, sym, ap, ◌∙◌, arith, slice_get, slice_set, slice_index_or}
use Rattle.std.specs.List.{Contains}
use Rattle.std.proofs.lemmas.Bool.{cases_lt}
use Rattle.std.proofs.lemmas.List.Elements.{All-contains}
use Rattle.std.proofs.lemmas.List.{get_or_default, get_or_past}
use Rattle.std.proofs.lemmas.Option.{slice_get-get_or}
use Rattle.otp_base.proofs.EachAtLemmas.{each_push}
use Rattle.otp_model.specs.declared.journey.Request.{Request}
use Rattle.end_bounds.specs.Found.{IsRowOf}
use Rattle.std.proofs.lemmas.Int.{ints}
use Rattle.otp_model.specs.Ranges.{IsRequestInRange}
use Rattle.otp_model.specs.Rows.{IsWithin}
use Rattle.final_fronts.specs.Fronts.{HasOnly, IsLostBy, IsStandingInRange, far}
use Rattle.final_fronts.specs.declared.standing.Standing.{Standing}
use Rattle.final_fronts.specs.declared.step.Step.{Step}
use Rattle.raptor_rounds.specs.declared.node.Final.{Final}
use Rattle.raptor_rounds.specs.declared.node.Node.{Node}
use Rattle.raptor_rounds.specs.declared.ready.Ready.{Ready}
use Rattle.raptor_rounds.specs.declared.state.RoundState.{RoundState}
use Rattle.raptor_rounds.specs.Closure.{IsLost}
use Rattle.raptor_rounds.specs.Labels.{InFinals, IsFinal, end_of}
use Rattle.raptor_rounds.specs.Rides.{IsNodeInRange, IsReadyInRange, most_departure, most_hop, standing_at, standing_of}
use Rattle.raptor_rounds.specs.States.{AreFronts, IsFrontOf, IsOpenAt, step_of}
use Rattle.raptor_rounds.proofs.ArenaLemmas.{each_set}
use Rattle.raptor_rounds.proofs.LostLemmas.{costs_more, same_ℤ, trans_ℤ}

pub fronts_more_empty : (finals : List Final) (fronts : List (List Step)) (front : List Step) → front ≡ [] → AreFronts finals fronts → AreFronts finals (fronts ++ front ∷ [])
fronts_more_empty finals fronts front none each = each_push (IsFrontOf finals) fronts front each (rw none (λ step on. absurd (omega (arith, on.1))))

-- a front that the final's step came into
pub fronts_put : (finals : List Final) (found : Final) (fronts : List (List Step)) (rides : ℕ) (old new : List Step) → Contains finals found → found.value.rides ≤ rides
    → slice_get fronts rides ≡ Some old → HasOnly old (step_of found) new → AreFronts finals fronts → AreFronts finals (slice_set fronts rides new)
fronts_put finals found fronts rides old new on few at only each = each_set (IsFrontOf finals) fronts rides new each
    (λ step is. elim (only step is) [
      | inl was ↦ each rides old at step was
      | inr same ↦ record { by = found; on = on; few = few; step_is = same }
    ])

-- what a row says of a number that is reached
row_at : (numbers : ℕ → ℕ) (row : List ℕ) (more : ℕ) → IsRowOf numbers row → numbers more < far → (more < length row) × (slice_get row more ≡ Some (numbers more))
row_at numbers row more is within = elim (cases_lt more (length row)) [
  | inl less ↦ (less, slice_get-get_or row more far less ∙ ap (λ (n : ℕ). Some n) (sym (is more)))
  | inr past ↦ absurd (omega (arith, within, is more, get_or_past row more far past))
]

-- and of any number, if what is beyond it counts as nothing
row_least : (numbers : ℕ → ℕ) (row : List ℕ) (more : ℕ) → IsRowOf numbers row → slice_index_or row more 0 ≤ numbers more
row_least numbers row more is = elim (cases_lt more (length row)) [
  | inl less ↦ omega (arith, is more, get_or_default row more far 0 less)
  | inr past ↦ omega (arith, get_or_past row more 0 past)
]

-- what is lost by fronts is lost by finals
pub lost_by_rows : (r : Request) (s : RoundState) (at : Standing) (numbers points : ℕ → ℕ) (seconds_row points_row : List ℕ) → IsOpenAt r at.departure s → IsRowOf numbers seconds_row → IsRowOf points points_row
    → IsLostBy s.fronts.items at r.rides seconds_row points_row → IsLost far r.rides (InFinals s.finals.items) numbers points at.departure at.rides at.time at.penalty
lost_by_rows r s at numbers points seconds_row points_row open_is is_numbers is_points lost = record {
  ended = λ more few within.
      let row = row_at numbers seconds_row more is_numbers within in
      let beaten = lost more (numbers more) few row.1 within in
      let step = beaten.passed.1 in
      let is = open_is.open_is.fronts (at.rides + more) beaten.steps beaten.steps_are step (beaten.passed.0, beaten.passed.2, beaten.passed.3) in
      let found = is.by in
      let arrival : found.value.arrival ≡ step.arrival = ap (λ (x : Step). x.arrival) is.step_is in
      let cost : pos found.value.cost ≡ step.cost = ap (λ (x : Step). x.cost) is.step_is in
      let final = All-contains (IsFinal r s.aim.egress.items s.arena.items) s.finals.items found open_is.open_is.finals_are is.on in
      let departs : found.value.departure ≡ final.node.departure = ap (λ (x : Final). x.value.departure) final.is.1 in
      let t = at.time +ℤ pos (numbers more) in
      record {
        by = end_of found;
        on = (found, is.on, refl);
        late = rw departs (open_is.late found.label final.node final.node_is);
        few = is.few;
        early = rw arrival beaten.passed.4.0;
        cheap = rw cost (trans_ℤ step.cost _ _ beaten.passed.4.1 (costs_more at.departure at.departure t t (at.penalty + slice_index_or points_row more 0) (at.penalty + points more) (same_ℤ at.departure) (same_ℤ t) (let l = row_least points points_row more is_points in omega (arith, l))));
      };
}

-- ---- ranges

standing_in_range : (d t : ℤ) (p k : ℕ) → neg_ℤ (pos most_departure) ≤ℤ d → d ≤ℤ t → t ≤ℤ pos most_departure → p ≤ k * most_hop → k ≤ 8 → IsWithin (2 ^ 45) d × IsWithin (2 ^ 45) t × (p ≤ 2 ^ 50)
standing_in_range d t p k a b c e f = (
  record { low = omega (arith, ints); high = omega (arith, ints) },
  record { low = omega (arith, ints); high = omega (arith, ints) },
  omega arith,
)

pub node_stands : (r : Request) (n : Node) → IsRequestInRange r → IsNodeInRange r n → IsStandingInRange (standing_of n)
node_stands r n numbers range =
    let few = range.few in
    let most = numbers.rides.1 in
    let high = (range.arrives).high in
    let x = standing_in_range n.departure n.time n.penalty n.rides range.departs range.forward (omega (arith, ints)) range.little (omega (arith, few, most)) in
    record { departure = x.0; time = x.1; penalty = x.2 }

pub ready_stands : (r : Request) (b : Ready) (t : ℤ) → IsReadyInRange r b → b.time ≤ℤ t → t ≤ℤ pos most_departure → IsStandingInRange (standing_at b t)
ready_stands r b t range after soon =
    let few = range.few in
    let most = range.numbers.rides.1 in
    let x = standing_in_range b.departure t b.penalty b.rides range.departs (trans_ℤ b.departure b.time t range.forward after) soon range.little (omega (arith, few, most)) in
    record { departure = x.0; time = x.1; penalty = x.2 }
