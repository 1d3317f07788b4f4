use Rattle.std.proofs.Common.{length, take, drop, ◌-◌, subst, w64, to_z, of_z}
use Rattle.std.specs.Bool.{IsTrue}
use Rattle.std.specs.Prelude.{◌↔◌}
use Rattle.std.proofs.lemmas.Int.{to_z-of_z}
use Rattle.lane_kernels.specs.Columns.{SomeCovers}
use Rattle.lane_kernels.specs.Lanes.{NoneWithin, covers}
use Rattle.lane_kernels.proofs.Places.{covers_joined, rest_is}
use Rattle.lane_kernels.proofs.covers.any_covers.Goals as goal

pub returns : goal.returns
returns c =
    let times = c.args.times.now in
    let pens = c.args.pens.now in
    let at = c.loop-at.at in
    let found = IsTrue c.any_covers.result in
    let plain : found ↔ SomeCovers (take (length times - at) (drop at times)) (take (length pens - at) (drop at pens)) (to_z w64 (of_z w64 c.args.t)) (to_z w64 (of_z w64 c.args.p)) = c.any_covers.ensures in
    let rest : found ↔ SomeCovers (drop at times) (drop at pens) c.args.t c.args.p =
    subst (λ (x : Type 0). x) (λ j. found ↔ SomeCovers (rest_is times at j) (rest_is pens at j) (to_z-of_z w64 c.args.t c.ranges.t j) (to_z-of_z w64 c.args.p c.ranges.p j)) plain in
    let none = subst (λ (x : Type 0). x) (λ j. NoneWithin (covers times pens (to_z-of_z w64 c.args.t c.ranges.t j) (to_z-of_z w64 c.args.p c.ranges.p j)) 0 at) c.loop-at.invariant.1 in
    covers_joined times pens c.args.t c.args.p at found c.loop-at.invariant.0 none rest
