use Rattle.std.proofs.Common.{◌≡◌, ℕ, ◌+◌, pos, List, Bool, false, get_or, set, length-set, get_or-set_other, sym, ◌∙◌, w64, to_z, of_z, arith, subst}
use Rattle.std.proofs.lemmas.Int.{to_z-of_z}
use Rattle.lane_kernels.specs.Columns.{is_in_reach, IsCoordinate, AreMarked}
use Rattle.std.proofs.lemmas.List.Elements.{All-get_or}
use Rattle.lane_kernels.proofs.Discs.{marked_more, seen}
use Rattle.lane_kernels.proofs.disc.mark_near.Goals as goal

pub loop-place-preserved : goal.loop-place-preserved
loop-place-preserved c =
    let xs = c.args.xs.now in
    let ys = c.args.ys.now in
    let at = c.loop-place.place in
    let same : (marks : List Bool) (high : ℕ) → AreMarked xs ys (to_z w64 (of_z w64 c.args.x)) (to_z w64 (of_z w64 c.args.y)) (to_z w64 (of_z w64 c.args.reach)) c.args.from high marks ≡ AreMarked xs ys c.args.x c.args.y c.args.reach c.args.from high marks =
    λ marks high j. AreMarked xs ys (to_z-of_z w64 c.args.x c.ranges.x j) (to_z-of_z w64 c.args.y c.ranges.y j) (to_z-of_z w64 c.args.reach c.ranges.reach j) c.args.from high marks in
    let across : IsCoordinate (get_or xs at (pos 0)) = All-get_or IsCoordinate xs at (pos 0) (omega arith) c.requires.coordinates.0 in
    let along : IsCoordinate (get_or ys at (pos 0)) = All-get_or IsCoordinate ys at (pos 0) (omega arith) c.requires.coordinates.1 in
    let here = c.is_near.ensures ∙ (λ j. is_in_reach (seen (get_or xs at (pos 0)) c.args.x across c.requires.coordinates.2 j) (seen (get_or ys at (pos 0)) c.args.y along c.requires.coordinates.3 j) (to_z-of_z w64 c.args.reach c.ranges.reach j)) in
    let more = marked_more xs ys c.args.x c.args.y c.args.reach c.args.from at c.loop-place.out c.is_near.result (omega arith) (subst (λ (x : Type 0). x) (same c.loop-place.out at) c.loop-place.invariant.1) here in
    (omega (arith, length-set {A = Bool}), subst (λ (x : Type 0). x) (sym (same (set c.loop-place.out at c.is_near.result) (at + 1))) more, λ k below. get_or-set_other c.loop-place.out at k c.is_near.result false (λ (e : k ≡ at). omega arith) ∙ c.loop-place.invariant.2 k below)

pub returns-clause-marked : goal.returns-clause-marked
returns-clause-marked c =
    let xs = c.args.xs.now in
    let ys = c.args.ys.now in
    let all = subst (λ (x : Type 0). x) (λ j. AreMarked xs ys (to_z-of_z w64 c.args.x c.ranges.x j) (to_z-of_z w64 c.args.y c.ranges.y j) (to_z-of_z w64 c.args.reach c.ranges.reach j) c.args.from c.loop-place.place c.loop-place.out) c.loop-place.invariant.1 in
    λ k from to. all k from (omega arith)
