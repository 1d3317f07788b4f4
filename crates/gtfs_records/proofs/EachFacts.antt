-- Reading item by item, as a loop does.
use Rattle.std.proofs.Common.{◌≡◌, ℕ, ◌+◌, List, [], ◌∷◌, ◌++◌, Result, Ok, Err, refl, sym, ap, ◌∙◌, append_assoc}
use Rattle.std.proofs.lemmas.List.{append-nil}
use Rattle.otp_base.specs.Answers.{GivesFault}
use Rattle.otp_base.specs.Results.{◌>>=◌}
use Rattle.gtfs_records.specs.Faults.{each, told_fault}
use Rattle.gtfs_records.specs.declared.fault.Fault.{Fault}
use Rattle.gtfs_records.specs.declared.fault.TableFault.{TableFault}
use Rattle.gtfs_records.specs.declared.fault.TableFault.TheVariants as faults

-- what was read before, and what is still read
abbrev pub with_front : {B : Type 0} → List B → Result (List B) Fault → Result (List B) Fault
with_front front read = read >>= λ ys. Ok (front ++ ys)

pub with_front-nil : {B : Type 0} (read : Result (List B) Fault) → with_front [] read ≡ read
with_front-nil (Ok ys) = refl
with_front-nil (Err f) = refl

regroup : {B : Type 0} (front : List B) (y : B) (read : Result (List B) Fault) → with_front front (read >>= λ ys. Ok (y ∷ ys)) ≡ with_front (front ++ y ∷ []) read
regroup front y (Ok ys) = ap Ok (simp append_assoc)
regroup front y (Err f) = refl

pub goes_on : {A B : Type 0} (f : ℕ → A → Result B Fault) (n : ℕ) (x : A) (xs : List A) (y : B) (front : List B) (total : Result (List B) Fault)
    → f n x ≡ Ok y → with_front front (each f n (x ∷ xs)) ≡ total → with_front (front ++ y ∷ []) (each f (n + 1) xs) ≡ total
unfolding each
goes_on f n x xs y front total read so_far =
    let one : with_front front (each f n (x ∷ xs)) ≡ with_front (front ++ y ∷ []) (each f (n + 1) xs) = rw read (regroup front y (each f (n + 1) xs)) in
    sym one ∙ so_far

pub fails : {A B : Type 0} (e : TableFault) (f : ℕ → A → Result B Fault) (n : ℕ) (x : A) (xs : List A) (front : List B) (total : Result (List B) Fault)
    → GivesFault (told_fault e) (f n x) → with_front front (each f n (x ∷ xs)) ≡ total → GivesFault (told_fault e) total
unfolding each
fails faults.Memory f n x xs front total read so_far = tt
fails (faults.Fault fault) f n x xs front total read so_far =
    let one : with_front front (each f n (x ∷ xs)) ≡ Err fault = rw read refl in
    sym so_far ∙ one

pub is_done : {A B : Type 0} (f : ℕ → A → Result B Fault) (n : ℕ) (front : List B) (total : Result (List B) Fault) → with_front front (each f n []) ≡ total → total ≡ Ok front
unfolding each
is_done f n front total so_far =
    let one : with_front front (each f n []) ≡ Ok front = ap Ok (append-nil front) in
    sym so_far ∙ one
