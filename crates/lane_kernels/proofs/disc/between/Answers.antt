use Rattle.std.proofs.Common.{ℕ, ◌+◌, ◌∙◌, w64}
use Rattle.std.proofs.lemmas.Int.{to_z-of_z}
use lib.Signed.{lt_z, le_z}
use Rattle.lane_kernels.specs.Columns.{entry}
use Rattle.lane_kernels.specs.Lanes.{is_between, marks}
use Rattle.lane_kernels.proofs.Vectors.{again, mask_again}
use Rattle.lane_kernels.proofs.disc.between.Goals as goal

pub returns : goal.returns
returns c =
    let each : ℕ → _ = λ i. entry c.args.column.now (c.args.at + i) in
    let loaded = again 2 c.pair-vector.result each c.pair-vector.ensures.value c.pair-vector.ensures.fits in
    let over = c.above.ensures each loaded c.pair-vector.ensures.fits ∙ (λ j. marks (λ i. lt_z (to_z-of_z w64 c.args.low c.ranges.low j) (each i)) 2) in
    let under = c.at_most.ensures each loaded c.pair-vector.ensures.fits ∙ (λ j. marks (λ i. le_z (each i) (to_z-of_z w64 c.args.high c.ranges.high j)) 2) in
    mask_again 2 c.both.result (λ i. is_between c.args.column.now c.args.low c.args.high (c.args.at + i))
    (c.both.ensures (λ i. lt_z c.args.low (each i)) (λ i. le_z (each i) c.args.high) (mask_again 2 c.above.result (λ i. lt_z c.args.low (each i)) over) (mask_again 2 c.at_most.result (λ i. le_z (each i) c.args.high) under))
