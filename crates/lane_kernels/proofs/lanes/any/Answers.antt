use Rattle.std.proofs.Common.{◌%◌, ◌^◌, List, ℤ, map, not, eqb, subst, sym, w64, of_z}
use lib.Lanes.{mask_l, top}
use Rattle.std.specs.Bool.{MatchBool}
use Rattle.lane_kernels.specs.Lanes.{SomeWithin, NoneWithin}
use Rattle.lane_kernels.proofs.Vectors.{any_lane}
use Rattle.lane_kernels.proofs.lanes.any.Goals as goal

pub returns : goal.returns
returns g c = λ p e. subst (λ (m : List ℤ). MatchBool (not (eqb (mask_l (map (top 63) (map (of_z w64) m)) % 2 ^ 64) 0)) (SomeWithin p 0 g.row.N) (NoneWithin p 0 g.row.N)) (sym e) (any_lane p g.row.N c.requires)
