use Rattle.std.proofs.Common.{[], map, refl, string_bytes, ◌∙◌}
use Rattle.otp_server.specs.declared.refusal.Refusal.TheVariants as refusal
use Rattle.otp_server.specs.declared.status.Status.TheVariants as status
use Rattle.otp_server.proofs.AnswerFacts.{done_answers, told, told_answers}
use Rattle.otp_server.proofs.offline.run_offline.Goals as goal

pub returns-in-Ok-clause-answers : goal.returns-in-Ok-clause-answers
returns-in-Ok-clause-answers g c =
    done_answers (g.F.Folder.files c.args.folder.now) (map string_bytes c.args.words.now) _ _ _ _ c.in-Ok.text _ c.in-Ok.ensures.done
    (rw c.as_slice.ensures at c.finish.ensures.finishes)

pub returns-in-Ok-line-clause-answers : goal.returns-in-Ok-line-clause-answers
returns-in-Ok-line-clause-answers g c =
    told_answers (g.F.Folder.files c.args.folder.now) (map string_bytes c.args.words.now) _ _ _ _ c.as_bytes.result.now c.status.result _
    (told (g.F.Folder.files c.args.folder.now) (map string_bytes c.args.words.now) c.in-Err.refusal c.status.result c.as_bytes.result.now
    c.in-Err.ensures.refused c.status.ensures (c.as_bytes.ensures.value ∙ c.in-Ok-line.ensures))
    c.finish-in-Ok-line.ensures.finishes

pub returns-clause-answers : goal.returns-clause-answers
returns-clause-answers g c =
    told_answers (g.F.Folder.files c.args.folder.now) (map string_bytes c.args.words.now) _ _ _ _ [] status.Memory _
    (told (g.F.Folder.files c.args.folder.now) (map string_bytes c.args.words.now) refusal.Memory status.Memory [] tt refl refl)
    c.finish-in-Err-line.ensures.finishes
