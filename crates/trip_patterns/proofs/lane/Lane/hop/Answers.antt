use Rattle.std.proofs.Common.{◌≡◌, ◌<◌, ◌≤◌, ℕ, length, subst, sym, ap, ◌∙◌, arith}
use Rattle.std.proofs.lemmas.List.{get_or_default}
use Rattle.trip_patterns.specs.Hops.{IsHopBound, least_hop, most_seconds}
use Rattle.trip_patterns.specs.Lanes.{LaneOf}
use Rattle.trip_patterns.proofs.LeastLemmas.{hop_bound, least_hop_most}
use Rattle.trip_patterns.proofs.lane.Lane.hop.Goals as goal

pub returns : goal.returns
returns c =
    let lane = c.self.inside in
    let runs = c.args.self.now.runs in
    let position = c.args.position in
    let least = c.self.invariant.are_least in
    let less : position < length lane.pattern = subst (λ (l : LaneOf). position < length l.pattern) (sym c.self.view_is) c.requires in
    let within : position < length lane.least.hops.items = omega (arith, less, least.hop_count) in
    let told : c.index.result.now ≡ least_hop runs position
    = c.index.ensures ∙ get_or_default lane.least.hops.items position c.index.result.now 0 within ∙ least.hops_are position less
    ∙ ap (λ (l : LaneOf). least_hop l.runs position) c.self.view_is in
    record {
      least = told;
      bound = subst (λ (n : ℕ). IsHopBound runs position n) (sym told) (hop_bound runs position);
      most = subst (λ (n : ℕ). n ≤ most_seconds) (sym told) (least_hop_most runs position);
    }
