use Rattle.std.proofs.Common.{ℕ, ◌+◌, ◌≡◌, ◌||◌, ◌∙◌, Bool, List, ℤ, w64, to_z, of_z}
use Rattle.std.proofs.lemmas.Int.{to_z-of_z}
use Rattle.lane_kernels.specs.Lanes.{covers, marks}
use Rattle.lane_kernels.proofs.Vectors.{mask_again}
use Rattle.lane_kernels.proofs.Places.{four_vectors, in_four}
use Rattle.lane_kernels.proofs.covers.any_in_group.Goals as goal

pub returns : goal.returns
returns c =
    let p = covers c.args.times.now c.args.pens.now c.args.t c.args.p in
    let passed : (base : ℕ) (xs : List ℤ) → xs ≡ marks (λ i. covers c.args.times.now c.args.pens.now (to_z w64 (of_z w64 c.args.t)) (to_z w64 (of_z w64 c.args.p)) (base + i)) 2 → xs ≡ marks (λ i. p (base + i)) 2 =
    λ base xs e. e ∙ (λ j. marks (λ i. covers c.args.times.now c.args.pens.now (to_z-of_z w64 c.args.t c.ranges.t j) (to_z-of_z w64 c.args.p c.ranges.p j) (base + i)) 2) in
    let one : ℕ → Bool = λ i. p (c.args.at + i) in
    let two : ℕ → Bool = λ i. p ((c.args.at + 2) + i) in
    let three : ℕ → Bool = λ i. p ((c.args.at + 4) + i) in
    let four : ℕ → Bool = λ i. p ((c.args.at + 6) + i) in
    let front = c.either-front.ensures one two (mask_again 2 c.covering.result one (passed c.args.at c.covering.result c.covering.ensures)) (mask_again 2 c.covering-2.result two (passed (c.args.at + 2) c.covering-2.result c.covering-2.ensures)) in
    let back = c.either-back.ensures three four (mask_again 2 c.covering-3.result three (passed (c.args.at + 4) c.covering-3.result c.covering-3.ensures)) (mask_again 2 c.covering-4.result four (passed (c.args.at + 6) c.covering-4.result c.covering-4.ensures)) in
    let whole = c.either.ensures (λ i. one i || two i) (λ i. three i || four i) (mask_again 2 c.either-front.result (λ i. one i || two i) front) (mask_again 2 c.either-back.result (λ i. three i || four i) back) in
    four_vectors p c.args.at 2 c.any.result (c.any.ensures (in_four p c.args.at 2) (mask_again 2 c.either.result (in_four p c.args.at 2) whole))
