-- A plan over a view is one over the history that the view stands for.
use Rattle.std.proofs.Common.{◌≡◌, ℕ, [], ◌∷◌, length, ap, subst, sym, ◌∙◌}
use Rattle.std.specs.Arc.{arc_value}
use Rattle.std.proofs.lemmas.List.Sorted.{All-permutation, IsPermutation-sym}
use Rattle.change_buffer.proofs.ServedLemmas.{sched_served}
use Rattle.commit_history.specs.Entries.{IsEntry, IsSnapshotOf}
use Rattle.commit_history.specs.Views.{PassView}
use Rattle.commit_history.specs.declared.pass.View.{View}
use Rattle.otp_model.proofs.PermutedLemmas.{page_permuted}
use Rattle.otp_model.specs.Core.{History}
use Rattle.otp_model.specs.Schedule.{sched}
use Rattle.otp_model.specs.Sound.{AreServed, IsServedRun, IsSound}
use Rattle.otp_model.specs.declared.journey.Request.{Request}
use Rattle.otp_model.specs.declared.timetable.Edges.{Edges}
use Rattle.otp_model.specs.declared.timetable.Feed.{Feed}
use Rattle.plan_json.specs.declared.body.Body.{Body}
use Rattle.plan_json.specs.declared.body.Body.TheVariants.{Plan}
use Rattle.reply_bodies.specs.Plans.{IsPlanOf}
use Rattle.snapshot_store.specs.Snapshots.{runs_of}
use Rattle.snapshot_store.specs.declared.snapshot.Snapshot.{Snapshot}
use Rattle.otp_session.specs.Sessions.{IsNewest, SessionView, TakesAt}

pub served_in : (feed : Feed) (history : History) (snapshot : Snapshot) → IsSound feed → IsSnapshotOf snapshot feed history → AreServed feed (runs_of snapshot)
served_in feed history snapshot sound stands =
    All-permutation (IsServedRun (length feed.stops) (length feed.trips)) (sched feed history) (runs_of snapshot) stands (sched_served feed history sound)

pub plan_over : (feed : Feed) (edges : Edges) (r : Request) (history : History) (snapshot : Snapshot) (number : ℕ) (body : Body) → IsEntry feed history number snapshot
    → IsPlanOf (runs_of snapshot) edges r number body → IsPlanOf (sched feed history) edges r (length history) body
plan_over feed edges r history snapshot number body entry plan = record {
  page = plan.page;
  page_is = page_permuted edges r (runs_of snapshot) (sched feed history) (IsPermutation-sym _ _ entry.stands) plan.page.found plan.page.more plan.page_is;
  direct_is = plan.direct_is;
  body_is = subst (λ number. body ≡ Plan number r.cursor r.at_least plan.page) entry.numbered plan.body_is;
}

-- the view that a session took stands for the history that it took
pub entry_of : (feed : Feed) (old now : SessionView) (history : History) (view : View) → TakesAt old now history → IsNewest now view → old.pass.feed ≡ feed
    → IsEntry feed history view.number (arc_value view.snapshot)
entry_of feed old now history view takes newest same =
    let known : newest.history ∷ [] ≡ history ∷ [] = sym newest.known ∙ ap (λ (pass : PassView). pass.known) takes.0.1 in
    let is : newest.history ≡ history = cc in
    let feed_is : now.pass.feed ≡ feed = ap (λ (pass : PassView). pass.feed) takes.0.1 ∙ same in
    subst (λ history. IsEntry feed history view.number (arc_value view.snapshot)) is
    (subst (λ feed. IsEntry feed newest.history view.number (arc_value view.snapshot)) feed_is newest.entry)
