-- The faults of a table, and reading item by item up to the first.
use Rattle.std.specs.Prelude.{ℕ, ◌+◌, List, [], ◌∷◌, Option, Some, None, Result, Ok}
use Rattle.otp_base.specs.Results.{◌>>=◌}
use Rattle.gtfs_records.specs.declared.fault.Fault.{Fault}
use Rattle.gtfs_records.specs.declared.fault.TableFault.{TableFault}
use Rattle.gtfs_records.specs.declared.fault.TableFault.TheVariants as faults

-- the fault that is told of a table that wasn't read: none where memory ran out
abbrev pub told_fault : TableFault → Option Fault
told_fault faults.Memory = None
told_fault (faults.Fault fault) = Some fault

-- what each of the items gives, in turn, with their numbers from n on
unfoldable pub each : {A B : Type 0} → (ℕ → A → Result B Fault) → ℕ → List A → Result (List B) Fault
each f n [] = Ok []
each f n (x ∷ xs) = do
  y ← f n x
  ys ← each f (n + 1) xs
  Ok (y ∷ ys)
