use Rattle.std.proofs.Common.{rules, ◌≡◌, ◌∙◌, [], ◌∷◌, ap, sym, subst, refl, Ok}
use Rattle.std.specs.Prelude.{IfOk}
use Rattle.std.specs.Arc.{arc_value}
use mathlib.Core.List.{IsPrefix}
use Rattle.otp_model.proofs.CoreLemmas.{extends_longer}
use Rattle.commit_history.specs.Entries.{IsSnapshotOf}
use Rattle.commit_history.specs.Histories.{histories_of}
use Rattle.commit_history.proofs.EnteringLemmas.{entered_at, found_of}
use Rattle.commit_history.proofs.pass.PassOf+CountedReader+Known+Note.take.Goals as goal

pub returns-then-number-clause-memory : goal.returns-then-number-clause-memory
returns-then-number-clause-memory c is =
    let found = c.in-Some.ensures in
    let own = c.self.inside in
    let history = own.longest.history in
    let one = c.one.ensures ∙ ap (λ h. h ∷ []) c.token.ensures.0 in
    rw (← c.self.view_is) (history, (c.self.invariant.2, entered_at own.longest own.longest (histories_of own.known) _ history _ _ _ _ refl refl one found.1 found.0.0))

pub returns-in_default-snapshot-clause-memory : goal.returns-in_default-snapshot-clause-memory
returns-in_default-snapshot-clause-memory c is =
    let found = c.in-Some.ensures in
    let own = c.self.inside in
    let history = c.in-Some.field-0.seen.log in
    let of = found_of own.longest.feed own.longest.cell _ _ c.in-Some.field-0 c.self.invariant.0 found.0 in
    let begins : IsPrefix own.longest.history history = rw (← c.token-2.ensures.0) c.compare.ensures in
    let renamed = c.rename.ensures in
    rw (← c.self.view_is) (
      history,
      (
        extends_longer own.longest.history history (histories_of own.known) begins c.self.invariant.2,
        entered_at own.longest c.rename.new.self (histories_of own.known) _ history _ _ _ _ (ap (λ w. w.feed) renamed) (ap (λ w. w.cell) renamed ∙ sym of.0) c.one-2.ensures found.1 found.0.0,
      ),
    )

pub returns-clause-ok : goal.returns-clause-ok
returns-clause-ok c =
    let found = c.in-Some.ensures in
    let own = c.self.inside in
    let history = c.in-Some.field-0.seen.log in
    let of = found_of own.longest.feed own.longest.cell _ _ c.in-Some.field-0 c.self.invariant.0 found.0 in
    let begins : IsPrefix own.longest.history history = rw (← c.token-2.ensures.0) c.compare.ensures in
    let renamed = c.rename.ensures in
    let is : c.in-Some.field-0.snapshot ≡ Ok c.in-Ok.snapshot = search rules in
    let stands = subst (λ r. IfOk r (λ snapshot. IsSnapshotOf (arc_value snapshot) own.longest.feed history)) is of.1 in
    rw (← c.self.view_is) (
      history,
      (
        extends_longer own.longest.history history (histories_of own.known) begins c.self.invariant.2,
        entered_at own.longest c.rename.new.self (histories_of own.known) _ history _ _ _ _ (ap (λ w. w.feed) renamed) (ap (λ w. w.cell) renamed ∙ sym of.0) c.one-2.ensures found.1 found.0.0,
      ),
      record { numbered = found.0.1; within = found.0.2; stands = stands },
    )
