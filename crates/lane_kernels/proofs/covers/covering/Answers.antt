use Rattle.std.proofs.Common.{ℕ, ◌+◌, ◌∙◌, w64}
use Rattle.std.proofs.lemmas.Int.{to_z-of_z}
use lib.Signed.{le_z}
use Rattle.lane_kernels.specs.Columns.{entry}
use Rattle.lane_kernels.specs.Lanes.{covers, marks}
use Rattle.lane_kernels.proofs.Vectors.{again, mask_again}
use Rattle.lane_kernels.proofs.covers.covering.Goals as goal

pub returns : goal.returns
returns c =
    let time : ℕ → _ = λ i. entry c.args.times.now (c.args.at + i) in
    let pen : ℕ → _ = λ i. entry c.args.pens.now (c.args.at + i) in
    let early = c.at_most.ensures time (again 2 c.pair.result time c.pair.ensures.value c.pair.ensures.fits) c.pair.ensures.fits ∙ (λ j. marks (λ i. le_z (time i) (to_z-of_z w64 c.args.t c.ranges.t j)) 2) in
    let cheap = c.at_most-2.ensures pen (again 2 c.pair-2.result pen c.pair-2.ensures.value c.pair-2.ensures.fits) c.pair-2.ensures.fits ∙ (λ j. marks (λ i. le_z (pen i) (to_z-of_z w64 c.args.p c.ranges.p j)) 2) in
    mask_again 2 c.both.result (λ i. covers c.args.times.now c.args.pens.now c.args.t c.args.p (c.args.at + i))
    (c.both.ensures (λ i. le_z (time i) c.args.t) (λ i. le_z (pen i) c.args.p) (mask_again 2 c.at_most.result (λ i. le_z (time i) c.args.t) early) (mask_again 2 c.at_most-2.result (λ i. le_z (pen i) c.args.p) cheap))
