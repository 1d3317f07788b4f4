use Rattle.std.proofs.Common.{◌∙◌, ◌++◌, ◌∷◌, [], refl}
use Rattle.change_buffer.specs.Commits.{pending_of}
use Rattle.otp_model.specs.declared.message.Commit.{Commit}
use Rattle.commit_bench.proofs.commits.settle.Goals as goal

pub returns : goal.returns
returns c = λ feed ready.
    let commit : Commit = record { messages = pending_of c.args.buffer.now } in
    record {
      one = c.settle.ensures.feeds ∙ ready.one;
      history = ready.history ++ commit ∷ [];
      committed = c.settle.ensures.committed ready.history commit refl ready.committed;
      resolved = c.settle.ensures.resolved feed ready.resolved;
    }
