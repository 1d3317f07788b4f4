use Rattle.std.proofs.Common.{rules}
use Rattle.std.specs.Ordering.{is_lt}
use Rattle.std.proofs.lemmas.List.Sorted.{answers_always, ranks_by}
use Rattle.otp_model.specs.Names.{run_name_cmp}
use Rattle.otp_model.proofs.NameLemmas.{run_name_cmp_total}
use Rattle.change_buffer.proofs.names_changed.sort_names.Goals as goal

pub returns-clause-sorted : goal.returns-clause-sorted
returns-clause-sorted c = c.in_ok-sort_by.ensures.sorted (λ x y. is_lt (run_name_cmp x y)) (ranks_by run_name_cmp_total (λ x. x)) (answers_always _ _ _ (λ f a r g called. search rules))
