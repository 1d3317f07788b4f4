use Rattle.std.proofs.Common.{rules}
use Rattle.std.proofs.lemmas.Fn.{dedup_same}
use Rattle.otp_model.specs.Resolution.{is_same_name}
use Rattle.change_buffer.proofs.names_changed.drop_repeats.Goals as goal

pub returns : goal.returns
returns c = dedup_same _ is_same_name _ (λ x y b f' x' y' k. search rules) _ _ c.dedup_by.ensures.filtered
