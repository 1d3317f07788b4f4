-- What a change touches is the same over the same runs in another order, and by each list of the differences.
use Rattle.std.proofs.Common.{◌≡◌, ◌≢◌, ℕ, ◌+◌, ◌≤◌, Bool, true, false, ◌&&◌, List, [], ◌∷◌, ◌++◌, length, refl, sym, ap, subst, ◌∙◌, arith}
use Rattle.std.specs.Prelude.{sum_by}
use Rattle.std.specs.List.{filter, list_any}
use Rattle.std.specs.List.Sorted.{IsPermutation}
use Rattle.std.proofs.lemmas.List.Folds.{Any-from_list_any}
use Rattle.std.proofs.lemmas.List.Elements.{All-contains}
use Rattle.std.proofs.lemmas.List.Sorted.{IsPermutation-append, IsPermutation-trans, list_any-IsPermutation, sum_by-IsPermutation}
use Rattle.otp_model.specs.Patterns.{is_changed, is_of_one_block, is_touched, touched, with_changes}
use Rattle.otp_model.specs.Resolution.{is_same_name}
use Rattle.otp_model.specs.Schedule.{AreDifferences, calls_in}
use Rattle.otp_model.specs.declared.change.Change.{Change}
use Rattle.otp_model.specs.declared.run_name.RunName.{RunName}
use Rattle.otp_model.specs.declared.timetable.Run.{Run}
use Rattle.change_buffer.proofs.NamedLemmas.{same_from}
use Rattle.commit_desk.specs.Costs.{IsCostWithin}
use Rattle.commit_desk.proofs.ScheduleLemmas.{changed_permuted, filter_permutation}

-- ---- tests that are the same

same_any : {X : Type 0} (test other : X → Bool) → ((x : X) → test x ≡ other x) → (xs : List X) → list_any test xs ≡ list_any other xs
same_any test other same [] = refl
same_any test other same (x ∷ xs) = rw (same x, same_any test other same xs) refl

same_filter : {X : Type 0} (test other : X → Bool) → ((x : X) → test x ≡ other x) → (xs : List X) → filter test xs ≡ filter other xs
same_filter test other same [] = refl
same_filter test other same (x ∷ xs) = rw (same x, same_filter test other same xs) refl

-- ---- the calls that are touched

abbrev pub touched_in : List Run → List Change → ℕ
touched_in runs changes = sum_by (λ (run : Run). length run.calls) (filter (is_touched runs changes) runs)

same_touched : (runs others : List Run) (changes as_well : List Change) → IsPermutation runs others → ((run : Run) → is_changed changes run ≡ is_changed as_well run)
    → touched_in runs changes ≡ touched_in others as_well
same_touched runs others changes as_well moved same =
    let size : Run → ℕ = λ run. length run.calls in
    let each : (run : Run) → is_touched runs changes run ≡ is_touched others as_well run =
    (λ run. list_any-IsPermutation (λ other. is_changed changes other && is_of_one_block run other) runs others moved
    ∙ same_any (λ other. is_changed changes other && is_of_one_block run other) (λ other. is_changed as_well other && is_of_one_block run other)
    (λ other. ap (λ b. b && is_of_one_block run other) (same other)) others) in
    ap (sum_by size) (same_filter (is_touched runs changes) (is_touched others as_well) each runs)
    ∙ sym (sum_by-IsPermutation size (filter (is_touched others as_well) runs) (filter (is_touched others as_well) others) (filter_permutation (is_touched others as_well) runs others moved))

-- ---- each list of the differences has the same names

also_changed : (before now : List Run) (changes others : List Change) → AreDifferences before now changes → AreDifferences before now others
    → (run : Run) → is_changed changes run ≡ true → is_changed others run ≡ true
also_changed before now changes others are also run changed =
    let found = Any-from_list_any (λ (change : Change). is_same_name change.name run.name) changes changed in
    let change = found.1 in
    let name : change.name ≡ run.name = same_from change.name run.name found.4 in
    let own = All-contains (λ (c : Change). calls_in now c.name ≡ c.calls) changes change are.calls (found.0, found.2, found.3) in
    let only = All-contains (λ (c : Change). calls_in before c.name ≢ c.calls) changes change are.only (found.0, found.2, found.3) in
    let apart : calls_in before change.name ≢ calls_in now change.name = (λ e. only (e ∙ own)) in
    also.whole run.name (subst (λ (n : RunName). calls_in before n ≢ calls_in now n) name apart)

bool_same : (a b : Bool) → (a ≡ true → b ≡ true) → (b ≡ true → a ≡ true) → a ≡ b
bool_same true b there back = sym (there refl)
bool_same false true there back = back refl
bool_same false false there back = refl

same_changed : (before now : List Run) (changes others : List Change) → AreDifferences before now changes → AreDifferences before now others
    → (run : Run) → is_changed changes run ≡ is_changed others run
same_changed before now changes others are also run =
    bool_same (is_changed changes run) (is_changed others run) (also_changed before now changes others are also run) (also_changed before now others changes also are run)

-- what changes of the snapshot's runs count is within what the differences of the schedules touch
pub cost_within : (before now runs : List Run) (changes : List Change) (old new : ℕ) → AreDifferences before now changes → IsPermutation before runs
    → IsPermutation now (with_changes before changes) → new ≤ old + touched runs (with_changes runs changes) changes → IsCostWithin before now old new
cost_within before now runs changes old new are moved stands most others also =
    let later = IsPermutation-trans now (with_changes before changes) (with_changes runs changes) stands (changed_permuted before runs changes moved) in
    let both = IsPermutation-append before runs now (with_changes runs changes) moved later in
    let same : touched before now others ≡ touched runs (with_changes runs changes) changes =
    same_touched (before ++ now) (runs ++ with_changes runs changes) others changes both (same_changed before now others changes also are) in
    rw same most

pub cost_none : (before now : List Run) (steps : ℕ) → IsCostWithin before now steps steps
cost_none before now steps changes are = omega arith
