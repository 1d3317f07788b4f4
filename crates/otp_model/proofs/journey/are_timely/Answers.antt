use Rattle.std.proofs.Common.{rules, ◌≡◌, ℕ, get_or, subst, sym, arith, inl, inr}
use Rattle.std.proofs.lemmas.Bool.{cases_lt}
use Rattle.std.proofs.lemmas.List.{get_or_read}
use Rattle.otp_model.specs.declared.timetable.Run.{Run}
use Rattle.otp_model.specs.Ranges.{IsTimely}
use Rattle.otp_model.proofs.journey.are_timely.Goals as goal

pub loop-run-preserved : goal.loop-run-preserved
loop-run-preserved c = λ k d h.
    let runs = c.args.runs.now in
    let i = c.loop-run.run-index in
    let timely : IsTimely c.run-item.result = c.if-not-is_timely.ensures.0 (search rules) in
    let is : c.run-item.result ≡ get_or runs i d = get_or_read runs i c.run-item.result c.loop-run-test.true c.run-item.is d in
    elim (cases_lt k i) [
      | inl less ↦ c.loop-run.invariant k d less
      | inr more ↦ let same : i ≡ k = omega (arith, h, more) in subst (λ (n : ℕ). IsTimely (get_or runs n d)) same (subst IsTimely is timely)
    ]

pub returns-then-not-is_timely : goal.returns-then-not-is_timely
returns-then-not-is_timely c = (
  λ never. absurd (search rules),
  λ all.
      let runs = c.args.runs.now in
      let i = c.loop-run.run-index in
      let d : Run = c.run-item.result in
      let is : c.run-item.result ≡ get_or runs i d = get_or_read runs i c.run-item.result c.loop-run-test.true c.run-item.is d in
      let timely : IsTimely c.run-item.result = subst IsTimely (sym is) (all i d c.loop-run-test.true) in
      c.if-not-is_timely.ensures.1 timely,
)
