use Rattle.std.proofs.Common.{◌≡◌, ◌<◌, ◌≤◌, ℕ, length, subst, sym, ap, ◌∙◌, arith}
use Rattle.std.proofs.lemmas.List.{get_or_default}
use Rattle.trip_patterns.specs.Hops.{IsDwellBound, least_dwell, most_seconds}
use Rattle.trip_patterns.specs.Lanes.{LaneOf}
use Rattle.trip_patterns.proofs.LeastLemmas.{dwell_bound, least_dwell_most}
use Rattle.trip_patterns.proofs.lane.Lane.dwell.Goals as goal

pub returns : goal.returns
returns c =
    let lane = c.self.inside in
    let runs = c.args.self.now.runs in
    let position = c.args.position in
    let least = c.self.invariant.are_least in
    let less : position < length lane.pattern = subst (λ (l : LaneOf). position < length l.pattern) (sym c.self.view_is) c.requires in
    let within : position < length lane.least.dwells.items = omega (arith, less, least.dwell_count) in
    let told : c.index.result.now ≡ least_dwell runs position
    = c.index.ensures ∙ get_or_default lane.least.dwells.items position c.index.result.now 0 within ∙ least.dwells_are position less
    ∙ ap (λ (l : LaneOf). least_dwell l.runs position) c.self.view_is in
    record {
      least = told;
      bound = subst (λ (n : ℕ). IsDwellBound runs position n) (sym told) (dwell_bound runs position);
      most = subst (λ (n : ℕ). n ≤ most_seconds) (sym told) (least_dwell_most runs position);
    }
