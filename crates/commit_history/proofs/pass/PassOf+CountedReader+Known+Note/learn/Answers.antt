use Rattle.std.proofs.Common.{rules, ◌≡◌, ◌∙◌, ◌++◌, ◌∷◌, [], ap, length, ◌≤◌, ◌<◌, Some}
use mathlib.Core.List.{IsPrefix}
use Rattle.commit_history.specs.Histories.{histories_of}
use Rattle.commit_history.specs.Rules.{name_with}
use Rattle.commit_history.proofs.LearningLemmas.{learns_long, learns_short}
use Rattle.commit_history.proofs.pass.PassOf+CountedReader+Known+Note.learn.Goals as goal

pub invariant_of-self : goal.invariant_of-self
invariant_of-self c =
    let own = c.self.inside in
    let note = c.args.note in
    let one_more = c.then.ensures ∙ ap (λ h. histories_of own.known ++ h ∷ []) c.token.ensures.0 in
    let begins : IsPrefix note.history own.longest.history = rw (← c.token-then-number.ensures.0, ← c.token-then-number-2.ensures.0) c.compare.ensures in
    let le : length note.history ≤ length own.longest.history = search rules in
    let learnt = learns_short (histories_of own.known) (histories_of c.then.result) own.longest.history note.history (length own.longest.history) one_more c.self.invariant.1 c.self.invariant.2 begins le in
    (c.self.invariant.0, learnt.0, learnt.1)

pub invariant_of-self-2 : goal.invariant_of-self-2
invariant_of-self-2 c =
    let own = c.self.inside in
    let note = c.args.note in
    let one_more = c.then.ensures ∙ ap (λ h. histories_of own.known ++ h ∷ []) c.token.ensures.0 in
    let begins : IsPrefix own.longest.history note.history = rw (← c.token-2.ensures.0, ← c.token-3.ensures.0) c.compare-2.ensures in
    let lt : length own.longest.history < length note.history = search rules in
    let learnt = learns_long (histories_of own.known) (histories_of c.then.result) own.longest.history note.history (length own.longest.history) one_more c.self.invariant.1 c.self.invariant.2 begins lt in
    let name : name_with own.longest.feed own.longest.cell ≡ name_with note.feed note.cell = search rules in
    (c.self.invariant.0 ∙ ap Some name, learnt.0, learnt.1)
