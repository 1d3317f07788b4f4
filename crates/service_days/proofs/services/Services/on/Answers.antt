use Rattle.std.proofs.Common.{◌≡◌, ℕ, ℤ, ◌<◌, List, sym, subst, ◌∙◌, w32}
use Rattle.std.specs.Prelude.{◌↔◌, IsTrue, length, IfOk}
use Rattle.std.specs.List.{All, Contains}
use Rattle.std.specs.List.Sorted.{IsStrictlyIncreasing}
use Rattle.std.proofs.lemmas.Int.{to_z-of_z}
use Rattle.std.proofs.lemmas.Result.{IfOk-weaker}
use Rattle.otp_model.specs.declared.tables.Tables.{Tables}
use Rattle.otp_model.specs.Services.{services_of}
use Rattle.service_days.specs.Active.{NumbersActive, active_services, is_active, passing, runs_by, runs_on}
use Rattle.service_days.proofs.ServiceFacts.{active-passing, below-passing, contains-active, contains-named, few-services, rises-passing}
use Rattle.service_days.proofs.services.Services.on.Goals as goal

pub numbers-requires : goal.numbers-requires
numbers-requires c = rw c.self.invariant.1 (few-services c.self.inside.tables.now c.self.invariant.0.calendars.few c.self.invariant.0.dates.few)

pub returns : goal.returns
returns c =
    let back = to_z-of_z w32 c.args.day c.ranges.day in
    let added = rw (back, c.as_slice-dates.ensures) at c.in_ok-added.ensures in
    let removed = rw (back, c.as_slice-dates.ensures) at c.in_ok-removed.ensures in
    let scheduled = rw (back, c.as_slice.ensures) at c.in_ok-scheduled.ensures in
    let tables : Tables = c.self.inside.tables.now in
    let day : ℤ = c.args.day in
    let whole = active-passing tables day c.self.inside.names c.in_ok-added.added c.in_ok-removed.removed c.in_ok-scheduled.scheduled c.self.invariant.1 added removed scheduled in
    let is : IfOk c.numbers.result (λ (numbers : List ℕ). numbers ≡ active_services tables day) =
    IfOk-weaker c.numbers.result (λ (numbers : List ℕ). numbers ≡ passing (runs_by c.in_ok-added.added c.in_ok-removed.removed c.in_ok-scheduled.scheduled) c.self.inside.names) (λ (numbers : List ℕ). numbers ≡ active_services tables day) (λ numbers e. e ∙ whole) c.numbers.ensures
    in
    rw (← c.self.view_is) (record {
      whole = is;
      member = IfOk-weaker c.numbers.result (λ (numbers : List ℕ). numbers ≡ active_services tables day) (λ (numbers : List ℕ). (n : ℕ) → Contains numbers n ↔ IsTrue (is_active tables day n))
          (λ numbers e n. subst (λ (xs : List ℕ). Contains xs n ↔ IsTrue (is_active tables day n)) (sym e) (contains-active tables day n)) is;
      named = IfOk-weaker c.numbers.result (λ (numbers : List ℕ). numbers ≡ active_services tables day) (λ (numbers : List ℕ). (n : ℕ) → Contains numbers n ↔ NumbersActive tables day n)
          (λ numbers e n. subst (λ (xs : List ℕ). Contains xs n ↔ NumbersActive tables day n) (sym e) (contains-named tables day n)) is;
      rises = IfOk-weaker c.numbers.result (λ (numbers : List ℕ). numbers ≡ active_services tables day) IsStrictlyIncreasing
          (λ numbers e. subst IsStrictlyIncreasing (sym e) (rises-passing (runs_on tables day) (services_of tables))) is;
      below = IfOk-weaker c.numbers.result (λ (numbers : List ℕ). numbers ≡ active_services tables day) (λ (numbers : List ℕ). All (λ n. n < length (services_of tables)) numbers)
          (λ numbers e. subst (λ (xs : List ℕ). All (λ n. n < length (services_of tables)) xs) (sym e) (below-passing (runs_on tables day) (services_of tables))) is;
    })
