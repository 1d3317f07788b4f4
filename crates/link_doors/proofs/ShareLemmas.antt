-- Ports that tell shares.
use Rattle.std.proofs.Common.{◌≡◌, ℕ, List, [], ◌∷◌, Some, refl, arith}
use Rattle.std.specs.Prelude.{sum_by}
use Rattle.std.proofs.lemmas.List.Sums.{sum_by-cons}
use Rattle.otp_base.specs.Doors.{TellTogether}

module _ {P : Type 0} (share : P → ℕ) where
  pub tell_sum : (ports : List P) → TellTogether (λ port. Some (share port)) ports (sum_by share ports)
  tell_sum [] = refl
  tell_sum (port ∷ ports) = (share port, sum_by share ports, refl, tell_sum ports, sum_by-cons share port ports)

  pub sum_told : (ports : List P) (total : ℕ) → TellTogether (λ port. Some (share port)) ports total → total ≡ sum_by share ports
  sum_told [] total told = told
  sum_told (port ∷ ports) total told =
      let first : share port ≡ told.0 = cc told.2 in
      let rest = sum_told ports told.1 told.3 in
      let both = told.4 in
      let sum = sum_by-cons share port ports in
      omega arith
