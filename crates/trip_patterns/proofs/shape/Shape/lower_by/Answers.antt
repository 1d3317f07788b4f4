use Rattle.std.proofs.Common.{ℕ, List, ◌++◌, length, slice_index_or, sym, subst}
use Rattle.otp_model.specs.Patterns.{Spot}
use Rattle.trip_patterns.specs.Hops.{AreLeast}
use Rattle.trip_patterns.specs.Shapes.{IsShapeOf, ShapeOf}
use Rattle.trip_patterns.proofs.LeastLemmas.{least_joined, same_lowered, write_back}
use Rattle.trip_patterns.proofs.shape.Shape.lower_by.Goals as goal

pub returns-clause-least : goal.returns-clause-least
returns-clause-least c = λ runs is.
    let own = c.self.inside.least in
    let pattern = c.args.self.now.pattern in
    let lane = c.args.lane.now in
    let least = c.least_times-least.result.now in
    let kept : IsShapeOf pattern runs (record { pattern = c.self.inside.pattern; hops = own.hops.items; dwells = own.dwells.items })
    = subst (λ (s : ShapeOf). IsShapeOf pattern runs s) (sym c.self.view_is) is in
    let more = subst (λ (p : List Spot). AreLeast (length p) lane.runs least.hops.items least.dwells.items) c.requires c.least_times-least.ensures in
    let index : List ℕ → ℕ → ℕ = λ xs k. slice_index_or xs k 0 in
    let hops = same_lowered index c.deref.result.now least.hops.items c.deref_mut.result.now own.hops.items c.lower.new.times c.deref.ensures.value c.deref_mut.ensures.value c.lower.ensures in
    let dwells = same_lowered index c.deref-2.result.now least.dwells.items c.deref_mut-2.result.now own.dwells.items c.lower-2.new.times c.deref-2.ensures.value c.deref_mut-2.ensures.value c.lower-2.ensures in
    let joined = least_joined (length pattern) runs lane.runs own.hops.items own.dwells.items c.lower.new.times c.lower-2.new.times least.hops.items least.dwells.items kept.least more hops dwells in
    record {
      pattern_is = kept.pattern_is;
      least = write_back (AreLeast (length pattern) (runs ++ lane.runs)) own.hops own.dwells c.lower.new.times c.lower-2.new.times hops.len dwells.len joined;
    }
