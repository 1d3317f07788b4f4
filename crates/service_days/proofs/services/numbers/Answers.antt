use Rattle.std.proofs.Common.{◌≡◌, ℕ, Bool, Some, sym, ◌∙◌}
use Rattle.std.proofs.lemmas.List.{append-nil}
use Rattle.std.specs.Prelude.{slice_get}
use Rattle.service_days.specs.Active.{passes, runs_by}
use Rattle.service_days.proofs.ServiceFacts.{numbers-step}
use Rattle.service_days.proofs.services.numbers.Goals as goal
use Rattle.service_days.proofs.services.numbers.Goals.{then-runs+in_ok-push, else-runs}

pub loop-number-preserved : goal.loop-number-preserved
loop-number-preserved c =
    let p : ℕ → Bool = passes (runs_by c.args.added.now c.args.removed.now c.args.scheduled.now) c.args.services.now in
    let got : slice_get c.args.services.now c.loop-number.number ≡ Some c.in-Some.id.now = sym c.in-Some.ensures in
    let test : p c.loop-number.number ≡ c.runs.result = rw got (sym c.runs.ensures) in
    numbers-step p c.loop-number.number c.loop-number.numbers c.if-runs.numbers c.loop-number.invariant
    (elim c.if-runs.branch [
      | then-runs+in_ok-push w ↦ rw (test, w.if-runs.true) (w.numbers-is ∙ w.in_ok-push.ensures.ok)
      | else-runs w ↦ rw (test, w.if-runs.false) (w.numbers-is ∙ sym (append-nil c.loop-number.numbers))
    ])
