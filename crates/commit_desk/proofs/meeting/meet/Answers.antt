use Rattle.std.proofs.Common.{◌≡◌, ◌∙◌, ◌+◌, ◌-◌, ◌^◌, min, ap, subst}
use Rattle.otp_model.specs.Core.{History}
use Rattle.commit_history.specs.Views.{EnteredAt, PassView}
use Rattle.commit_history.specs.declared.pass.TakeFault.TheVariants.{Memory}
use Rattle.commit_desk.proofs.MeetingLemmas.{meets_at, refused, seen_met, seen_refused, told_of}
use Rattle.commit_desk.proofs.meeting.meet.Goals as goal

pub returns-in-Err-clause-memory : goal.returns-in-Err-clause-memory
returns-in-Err-clause-memory c is =
    let old = c.args.pass.now in
    let published = c.args.desk.now.state.history in
    let told : c.learn.new.self ≡ told_of old published = c.learn.ensures ∙ ap (λ note. told_of old note.history) c.note.ensures.note in
    let same : c.in-Err.fault ≡ Memory = cc in
    let entered = c.in-Err.ensures.memory (ap refused same) in
    (entered.0, meets_at old c.take.new.self published entered.0 (subst (λ (pass : PassView). EnteredAt pass c.take.new.self entered.0) told entered.1))

pub returns-in-Err-clause-seen : goal.returns-in-Err-clause-seen
returns-in-Err-clause-seen c =
    let old = c.args.pass.now in
    let published = c.args.desk.now.state.history in
    let told : c.learn.new.self ≡ told_of old published = c.learn.ensures ∙ ap (λ note. told_of old note.history) c.note.ensures.note in
    let new = c.take.new.self in
    seen_refused c.in-Err.fault old new (min (old.turned + 1) (2 ^ 64 - 1)) published
    (λ e. subst (λ (pass : PassView). new ≡ record pass { turned = min (pass.turned + 1) (2 ^ 64 - 1) }) told (c.in-Err.ensures.turned e))
    (λ e. subst (λ (pass : PassView). (history : History) × EnteredAt pass new history) told (c.in-Err.ensures.memory e))

pub returns-clause-ok : goal.returns-clause-ok
returns-clause-ok c =
    let old = c.args.pass.now in
    let published = c.args.desk.now.state.history in
    let told : c.learn.new.self ≡ told_of old published = c.learn.ensures ∙ ap (λ note. told_of old note.history) c.note.ensures.note in
    let entered = c.in_default.ensures.ok in
    (entered.0, meets_at old c.take.new.self published entered.0 (subst (λ (pass : PassView). EnteredAt pass c.take.new.self entered.0) told entered.1))

pub returns-clause-seen : goal.returns-clause-seen
returns-clause-seen c =
    let old = c.args.pass.now in
    let published = c.args.desk.now.state.history in
    let told : c.learn.new.self ≡ told_of old published = c.learn.ensures ∙ ap (λ note. told_of old note.history) c.note.ensures.note in
    let entered = c.in_default.ensures.ok in
    seen_met old c.take.new.self published entered.0 (meets_at old c.take.new.self published entered.0 (subst (λ (pass : PassView). EnteredAt pass c.take.new.self entered.0) told entered.1))
