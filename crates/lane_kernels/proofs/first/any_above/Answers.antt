use Rattle.std.proofs.Common.{ℕ, ◌+◌, ◌≡◌, ◌||◌, ◌∙◌, Bool, List, ℤ, w64, to_z, of_z}
use Rattle.std.proofs.lemmas.Int.{to_z-of_z}
use Rattle.lane_kernels.specs.Columns.{entry}
use Rattle.lane_kernels.specs.Lanes.{is_above, marks}
use Rattle.lane_kernels.proofs.Vectors.{again, mask_again}
use Rattle.lane_kernels.proofs.Places.{four_vectors, in_four}
use Rattle.lane_kernels.proofs.first.any_above.Goals as goal

pub returns : goal.returns
returns c =
    let p = is_above c.args.column.now c.args.limit in
    let from : ℕ → ℕ → ℤ = λ base i. entry c.args.column.now (base + i) in
    let passed : (base : ℕ) (xs : List ℤ) → xs ≡ marks (λ i. is_above c.args.column.now (to_z w64 (of_z w64 c.args.limit)) (base + i)) 2 → xs ≡ marks (λ i. p (base + i)) 2 =
    λ base xs e. e ∙ (λ j. marks (λ i. is_above c.args.column.now (to_z-of_z w64 c.args.limit c.ranges.limit j) (base + i)) 2) in
    let one : ℕ → Bool = λ i. p (c.args.at + i) in
    let two : ℕ → Bool = λ i. p ((c.args.at + 2) + i) in
    let three : ℕ → Bool = λ i. p ((c.args.at + 4) + i) in
    let four : ℕ → Bool = λ i. p ((c.args.at + 6) + i) in
    let first = passed c.args.at c.above.result (c.above.ensures (from c.args.at) (again 2 c.pair.result (from c.args.at) c.pair.ensures.value c.pair.ensures.fits) c.pair.ensures.fits) in
    let second = passed (c.args.at + 2) c.above-2.result (c.above-2.ensures (from (c.args.at + 2)) (again 2 c.pair-2.result (from (c.args.at + 2)) c.pair-2.ensures.value c.pair-2.ensures.fits) c.pair-2.ensures.fits) in
    let third = passed (c.args.at + 4) c.above-3.result (c.above-3.ensures (from (c.args.at + 4)) (again 2 c.pair-3.result (from (c.args.at + 4)) c.pair-3.ensures.value c.pair-3.ensures.fits) c.pair-3.ensures.fits) in
    let fourth = passed (c.args.at + 6) c.above-4.result (c.above-4.ensures (from (c.args.at + 6)) (again 2 c.pair-4.result (from (c.args.at + 6)) c.pair-4.ensures.value c.pair-4.ensures.fits) c.pair-4.ensures.fits) in
    let front = c.either-front.ensures one two (mask_again 2 c.above.result one first) (mask_again 2 c.above-2.result two second) in
    let back = c.either-back.ensures three four (mask_again 2 c.above-3.result three third) (mask_again 2 c.above-4.result four fourth) in
    let whole = c.either.ensures (λ i. one i || two i) (λ i. three i || four i) (mask_again 2 c.either-front.result (λ i. one i || two i) front) (mask_again 2 c.either-back.result (λ i. three i || four i) back) in
    four_vectors p c.args.at 2 c.any.result (c.any.ensures (in_four p c.args.at 2) (mask_again 2 c.either.result (in_four p c.args.at 2) whole))
