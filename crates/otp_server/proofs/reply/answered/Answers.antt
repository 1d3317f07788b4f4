use Rattle.std.proofs.Common.{length, ◌∙◌}
use Rattle.std.proofs.lemmas.List.{length-map}
use Rattle.std.proofs.lemmas.List.Sorted.{All-permutation}
use Rattle.change_buffer.proofs.ServedLemmas.{sched_served}
use Rattle.command_words.specs.Messages.{all_asked, asked_by}
use Rattle.otp_model.specs.Schedule.{sched}
use Rattle.otp_model.specs.Sound.{IsServedRun}
use Rattle.snapshot_store.specs.Snapshots.{runs_of}
use Rattle.otp_server.specs.Messages.{commit_of, history_of}
use Rattle.otp_server.proofs.TakenFacts.{told_length}
use Rattle.otp_server.proofs.reply.answered.Goals as goal

pub reply-requires-clause-served : goal.reply-requires-clause-served
reply-requires-clause-served g c =
    let feed = c.args.loaded.now.feed in
    let kept = c.in-Ok.ensures.done in
    All-permutation (IsServedRun (length feed.stops) (length feed.trips)) (sched feed (history_of kept.told)) (runs_of c.in-Ok.committed.snapshot) kept.after.stands
    (sched_served feed (history_of kept.told) c.requires.searchable.sound)

pub returns-in_ok-reply-in-Ok-clause-done : goal.returns-in_ok-reply-in-Ok-clause-done
returns-in_ok-reply-in-Ok-clause-done g c =
    let kept = c.in-Ok.ensures.done in
    record {
      told = kept.told;
      brought = kept.brought;
      reply = c.in_ok-reply-in-Ok.ensures (history_of kept.told) kept.after.stands
          (length-map kept.told commit_of ∙ told_length _ (all_asked c.args.messages.now) kept.told kept.brought ∙ length-map c.args.messages.now asked_by);
    }
