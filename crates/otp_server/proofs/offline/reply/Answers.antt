use Rattle.std.proofs.Common.{IfErr, IfOk, IsSomeAnd, List, map, refl, rules, string_bytes, subst}
use Rattle.std.proofs.lemmas.Result.{IfErr-weaker, IfOk-weaker}
use Rattle.command_words.specs.Commands.{IsTask, task_of}
use Rattle.command_words.specs.Messages.{all_asked}
use Rattle.command_words.specs.declared.command.Command.{Command}
use Rattle.command_words.specs.declared.messages.MessageWord.{MessageWord}
use Rattle.otp_server.specs.Commands.{Checks, IsFeedFault, IsPlanFault, Plans}
use Rattle.otp_server.specs.Offline.{IsDone, IsRefused}
use Rattle.otp_server.proofs.AnswerFacts.{check_done, check_refused, none_refused, plan_done, plan_refused, serve_refused}
use Rattle.otp_server.proofs.offline.reply.Goals as goal

pub returns-in-Ok-Check-clause-done : goal.returns-in-Ok-Check-clause-done
returns-in-Ok-Check-clause-done g c =
    let asked = subst (λ (command : Command). IsSomeAnd (task_of (map string_bytes c.args.words.now)) (IsTask command)) c.in-Ok-Check.field-0-is c.in-Ok-Check.ensures.reads in
    IfOk-weaker c.check.result (Checks (g.F.Folder.files c.args.folder.now) c.in-Ok-Check.path.now c.in-Ok-Check.options) (IsDone (g.F.Folder.files c.args.folder.now) (map string_bytes c.args.words.now))
    (λ text h. check_done (g.F.Folder.files c.args.folder.now) (map string_bytes c.args.words.now) c.in-Ok-Check.path c.in-Ok-Check.options text _ refl asked h)
    c.check.ensures.done

pub returns-in-Ok-Check-clause-refused : goal.returns-in-Ok-Check-clause-refused
returns-in-Ok-Check-clause-refused g c =
    let asked = subst (λ (command : Command). IsSomeAnd (task_of (map string_bytes c.args.words.now)) (IsTask command)) c.in-Ok-Check.field-0-is c.in-Ok-Check.ensures.reads in
    IfErr-weaker c.check.result (IsFeedFault (g.F.Folder.files c.args.folder.now) c.in-Ok-Check.path.now c.in-Ok-Check.options) (IsRefused (g.F.Folder.files c.args.folder.now) (map string_bytes c.args.words.now))
    (λ why h. check_refused (g.F.Folder.files c.args.folder.now) (map string_bytes c.args.words.now) c.in-Ok-Check.path c.in-Ok-Check.options why _ refl asked h)
    c.check.ensures.refused

pub returns-in-Ok-Plan-clause-done : goal.returns-in-Ok-Plan-clause-done
returns-in-Ok-Plan-clause-done g c =
    let asked = subst (λ (command : Command). IsSomeAnd (task_of (map string_bytes c.args.words.now)) (IsTask command)) c.in-Ok-Plan.field-0-is c.in-Ok-Plan.ensures.reads in
    IfOk-weaker c.plan.result (Plans (g.F.Folder.files c.args.folder.now) c.in-Ok-Plan.path.now c.in-Ok-Plan.options (all_asked c.in-Ok-Plan.messages.items) c.in-Ok-Plan.query.now) (IsDone (g.F.Folder.files c.args.folder.now) (map string_bytes c.args.words.now))
    (λ text h. plan_done (g.F.Folder.files c.args.folder.now) (map string_bytes c.args.words.now) c.in-Ok-Plan.path c.in-Ok-Plan.query c.in-Ok-Plan.messages c.in-Ok-Plan.options text _ refl asked h)
    (subst (λ (messages : List MessageWord). IfOk c.plan.result (Plans (g.F.Folder.files c.args.folder.now) c.in-Ok-Plan.path.now c.in-Ok-Plan.options (all_asked messages) c.in-Ok-Plan.query.now)) c.deref.ensures.value c.plan.ensures.done)

pub returns-in-Ok-Plan-clause-refused : goal.returns-in-Ok-Plan-clause-refused
returns-in-Ok-Plan-clause-refused g c =
    let asked = subst (λ (command : Command). IsSomeAnd (task_of (map string_bytes c.args.words.now)) (IsTask command)) c.in-Ok-Plan.field-0-is c.in-Ok-Plan.ensures.reads in
    IfErr-weaker c.plan.result (IsPlanFault (g.F.Folder.files c.args.folder.now) c.in-Ok-Plan.path.now c.in-Ok-Plan.options (all_asked c.in-Ok-Plan.messages.items) c.in-Ok-Plan.query.now) (IsRefused (g.F.Folder.files c.args.folder.now) (map string_bytes c.args.words.now))
    (λ why h. plan_refused (g.F.Folder.files c.args.folder.now) (map string_bytes c.args.words.now) c.in-Ok-Plan.path c.in-Ok-Plan.query c.in-Ok-Plan.messages c.in-Ok-Plan.options why _ refl asked h)
    (subst (λ (messages : List MessageWord). IfErr c.plan.result (IsPlanFault (g.F.Folder.files c.args.folder.now) c.in-Ok-Plan.path.now c.in-Ok-Plan.options (all_asked messages) c.in-Ok-Plan.query.now)) c.deref.ensures.value c.plan.ensures.refused)

pub returns-in-Ok-Serve-clause-refused : goal.returns-in-Ok-Serve-clause-refused
returns-in-Ok-Serve-clause-refused g c =
    let asked = subst (λ (command : Command). IsSomeAnd (task_of (map string_bytes c.args.words.now)) (IsTask command)) c.in-Ok-Serve.field-0-is c.in-Ok-Serve.ensures.reads in
    serve_refused (task_of (map string_bytes c.args.words.now)) c.in-Ok-Serve._folder c.in-Ok-Serve._options c.in-Ok-Serve._serving asked

pub returns-in-Err-Words-clause-refused : goal.returns-in-Err-Words-clause-refused
returns-in-Err-Words-clause-refused g c = none_refused (task_of (map string_bytes c.args.words.now)) (search rules)
