use Rattle.std.proofs.Common.{rules}
use Rattle.std.proofs.lemmas.Fn.{always_returns_same}
use Rattle.otp_model.specs.Names.{run_name_cmp}
use Rattle.change_buffer.proofs.ShownLemmas.{run_name}
use Rattle.change_buffer.proofs.SearchLemmas.{found, not_found}
use Rattle.change_buffer.proofs.named.run_named.Goals as goal

pub returns-in-Ok : goal.returns-in-Ok
returns-in-Ok c =
    let at = c.in-Ok.ensures.position (λ run. run_name_cmp run.name c.args.name.now) (always_returns_same _ _ _ (λ a r f called. search rules)) in
    found run_name c.args.name.now c.args.runs.now c.in-Ok.place c.index-runs-place.result c.requires c.in-Ok.ensures.bound c.index-runs-place.is (at c.index-runs-place.result)

pub returns-in-Err : goal.returns-in-Err
returns-in-Err c =
    let at = c.in-Err.ensures.position (λ run. run_name_cmp run.name c.args.name.now) (always_returns_same _ _ _ (λ a r f called. search rules)) in
    not_found run_name c.args.name.now c.args.runs.now c.in-Err.field-0 c.requires at
