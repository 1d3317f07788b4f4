use Rattle.std.proofs.Common.{◌++◌, ◌∷◌, [], ◌∙◌, ap, List, subst, sym}
use Rattle.std.specs.List.{All}
use Rattle.otp_model.specs.Schedule.{AreDifferences, sched}
use Rattle.otp_model.specs.declared.change.Change.{Change}
use Rattle.otp_model.specs.declared.message.Commit.{Commit}
use Rattle.otp_model.specs.declared.run_name.RunName.{RunName}
use Rattle.change_buffer.specs.Commits.{pending_of}
use Rattle.change_buffer.specs.Forms.{AreNamesChanged, HasRising, differences}
use Rattle.change_buffer.specs.declared.feed_state.FeedState.{FeedState}
use Rattle.change_buffer.proofs.DifferenceLemmas.{commit_differences, commit_makes}
use Rattle.change_buffer.proofs.StepLemmas.{resolved_rise}
use Rattle.change_buffer.proofs.buffer.Buffer.prepare.Goals as goal

pub differences-requires-clause-runs : goal.differences-requires-clause-runs
differences-requires-clause-runs c = c.requires.sound.run_names

pub differences-requires-clause-rising : goal.differences-requires-clause-rising
differences-requires-clause-rising c =
    subst (λ (states : List FeedState). All HasRising states) (sym (c.deref-2.ensures.value ∙ c.self.view_is)) (resolved_rise c.args.feed.now c.args.self.now c.requires.resolved)

pub returns-clause-changes : goal.returns-clause-changes
returns-clause-changes c = λ history committed.
    let feed = c.args.feed.now in
    let states = c.args.self.now in
    let names : List RunName = c.in_ok-names.names.items in
    let commit : Commit = record { messages = c.in_ok-messages.messages } in
    let all = subst (λ (ss : List FeedState). AreNamesChanged ss names) (c.deref.ensures.value ∙ c.self.view_is) c.in_ok-names.ensures in
    let published = c.in_ok-messages.ensures ∙ ap pending_of (c.deref-3.ensures.value ∙ c.self.view_is) in
    let is = c.in_ok-changes.ensures ∙ ap (λ (ss : List FeedState). differences feed ss names) (c.deref-2.ensures.value ∙ c.self.view_is) in
    subst (λ (changes : List Change). AreDifferences (sched feed history) (sched feed (history ++ commit ∷ [])) changes) (sym is)
    (commit_differences feed states names commit history c.requires.sound c.requires.resolved all published committed)

pub returns-clause-schedule : goal.returns-clause-schedule
returns-clause-schedule c = λ history committed.
    commit_makes c.args.feed.now history (history ++ record { messages = c.in_ok-messages.messages } ∷ []) c.in_ok-changes.changes c.requires.sound (returns-clause-changes c history committed)
