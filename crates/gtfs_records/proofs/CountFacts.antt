-- A table has no more rows than its file has bytes.
use Rattle.std.proofs.Common.{◌≡◌, ℕ, zero, suc, ◌+◌, ◌≤◌, List, [], ◌∷◌, length, drop, Option, Some, None, Bool, true, false, cond, Result, Ok, Err, refl, ap, arith}
use Rattle.std.specs.Prelude.{IfOk}
use Rattle.csv.specs.Machine.{Read, ends_at_end, next_record}
use Rattle.csv.specs.Reading.{default_config, is_bom, records_from, records_next, strip_bom}
use Rattle.csv.specs.declared.parser.Config.{Config}
use Rattle.csv.specs.declared.parser.State.{State}
use Rattle.csv.specs.declared.parser.State.TheVariants as st
use Rattle.gtfs_records.proofs.RecordFacts.{next_record-leaves}
use Rattle.otp_base.specs.Answers.{Gives}
use Rattle.otp_base.specs.Results.{◌>>=◌}
use Rattle.gtfs_records.specs.Faults.{each, told_fault}
use Rattle.gtfs_records.specs.Records.{Record, records_of}
use Rattle.gtfs_records.specs.declared.fault.Fault.{Fault}
use Rattle.gtfs_records.specs.declared.fault.TableFault.{TableFault}

-- each record takes at least a byte
records_from-few : (cfg : Config) (n : ℕ) (s : State) (bytes : List ℕ) → ends_at_end s ≡ false → length (records_from cfg n s bytes) ≤ length bytes
unfolding records_from
records_from-few cfg zero s bytes e = omega arith
records_from-few cfg (suc n) s bytes e = by (next_record cfg s [] [] bytes) refl (records_from-few cfg n)
  where
    by : (o : Option Read) → next_record cfg s [] [] bytes ≡ o
        → ((s : State) (bytes : List ℕ) → ends_at_end s ≡ false → length (records_from cfg n s bytes) ≤ length bytes)
        → length (records_next (records_from cfg n) o) ≤ length bytes
    by None t more = omega arith
    by (Some q) t more =
        let left = next_record-leaves cfg s [] [] bytes q t in
        let fewer : length q.2 + 1 ≤ length bytes = rw e at left.fewer in
        omega (arith, more q.1 q.2 left.state)

strip_bom-shorter : (bytes : List ℕ) → length (strip_bom bytes) ≤ length bytes
unfolding strip_bom
strip_bom-shorter [] = omega arith
strip_bom-shorter (a ∷ []) = omega arith
strip_bom-shorter (a ∷ b ∷ []) = omega arith
strip_bom-shorter (a ∷ b ∷ c ∷ rest) = by (is_bom a b c)
  where
    by : (m : Bool) → length (cond m rest (a ∷ b ∷ c ∷ rest)) ≤ length (a ∷ b ∷ c ∷ rest)
    by true = omega arith
    by false = omega arith

pub records_of-few : (file : List ℕ) → length (records_of file) ≤ length file
records_of-few file = omega (arith, records_from-few default_config (length (strip_bom file) + 1) st.StartRecord (strip_bom file) refl, strip_bom-shorter file)

-- reading each item gives as many
pub each-length : {A B : Type 0} (f : ℕ → A → Result B Fault) (n : ℕ) (xs : List A) (ys : List B) → each f n xs ≡ Ok ys → length ys ≡ length xs
unfolding each
each-length f n [] ys e = let same : [] ≡ ys = cc e in rw (← same) refl
each-length {B = B} f n (x ∷ xs) ys e = by (f n x) (each f (n + 1) xs) (each-length f (n + 1) xs) e
  where
    by : (r : Result B Fault) (rest : Result (List B) Fault) → ((zs : List B) → rest ≡ Ok zs → length zs ≡ length xs)
        → (r >>= λ y. rest >>= λ zs. Ok (y ∷ zs)) ≡ Ok ys → length ys ≡ suc (length xs)
    by (Err f) rest more e = cc e
    by (Ok y) (Err f) more e = cc e
    by (Ok y) (Ok zs) more e = let same : y ∷ zs ≡ ys = cc e in rw (← same) (ap suc (more zs refl))

-- what gives the rows of the records under the header has at most as many
pub table-few : {X : Type 0} (r : Result (List X) TableFault) (f : ℕ → Record → Result X Fault) (n : ℕ) (records : List Record) (file : List ℕ)
    → Gives (λ table. table) told_fault r (each f n (drop 1 records)) → length records ≤ length file → IfOk r (λ table. length table ≤ length file)
table-few (Ok table) f n [] file h few = omega (arith, each-length f n [] table h)
table-few (Ok table) f n (x ∷ xs) file h few = omega (arith, each-length f n xs table h)
table-few (Err e) f n records file h few = tt
