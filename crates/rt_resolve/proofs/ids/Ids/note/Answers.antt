use Rattle.std.proofs.Common.{◌∙◌, ap, map}
use Rattle.std.specs.Prelude.{string_bytes}
use Rattle.otp_model.specs.Sights.{noted}
use Rattle.rt_resolve.proofs.IdLemmas.{noted_key}
use Rattle.rt_resolve.proofs.ids.Ids.note.Goals as goal

pub returns : goal.returns
returns c =
    let keys = c.self.inside.set.keys in
    rw (← c.self.view_is, c.in_ok-insert_full.ensures.keys)
    (noted_key string_bytes keys c.in_ok-from_str.field-0 ∙ ap (noted (map string_bytes keys)) c.in_ok-from_str.ensures.ok)
