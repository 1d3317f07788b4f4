use Rattle.std.proofs.Common.{ap, subst, List}
use mathlib.Core.List.{IsPrefix}
use Rattle.otp_model.specs.declared.message.Commit.{Commit}
use Rattle.commit_history.proofs.PrefixLemmas.{prefix_shorter}
use Rattle.commit_history.proofs.log.compare.Goals as goal

pub returns : goal.returns
returns c =
    let both = c.learn.new.self.log in
    let mine : IsPrefix c.args.short.now.log both = subst (λ (log : List Commit). IsPrefix log both) (ap (λ s. s.log) c.again-both.ensures) c.learn.ensures.2 in
    prefix_shorter c.args.short.now.log c.args.long.now.log both mine c.learn.ensures.3 c.requires.length
