use Rattle.std.proofs.Common.{rules}
use Rattle.std.proofs.lemmas.Fn.{always_returns_same}
use Rattle.otp_model.specs.Names.{run_name_cmp}
use Rattle.change_buffer.proofs.KnownLemmas.{change_name}
use Rattle.change_buffer.proofs.SearchLemmas.{found, not_found}
use Rattle.change_buffer.proofs.named.change_named.Goals as goal

pub returns-in-Ok : goal.returns-in-Ok
returns-in-Ok c =
    let at = c.in-Ok.ensures.position (λ change. run_name_cmp change.name c.args.name.now) (always_returns_same _ _ _ (λ a r f called. search rules)) in
    found change_name c.args.name.now c.args.changes.now c.in-Ok.place c.index-changes-place.result c.requires c.in-Ok.ensures.bound c.index-changes-place.is (at c.index-changes-place.result)

pub returns-in-Err : goal.returns-in-Err
returns-in-Err c =
    let at = c.in-Err.ensures.position (λ change. run_name_cmp change.name c.args.name.now) (always_returns_same _ _ _ (λ a r f called. search rules)) in
    not_found change_name c.args.name.now c.args.changes.now c.in-Err.field-0 c.requires at
