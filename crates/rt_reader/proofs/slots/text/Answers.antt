use Rattle.std.proofs.Common.{◌≡◌, true, false, refl}
use Rattle.std.proofs.lemmas.Str.{is_utf8-from_IsUtf8}
use Rattle.std.specs.Str.{is_utf8}
use Rattle.rt_reader.specs.Fields.{bytes_in}
use Rattle.rt_reader.proofs.Texts.{not_text}
use Rattle.rt_reader.proofs.slots.text.Goals as goal

pub returns-in_ok-from_str-in-Ok : goal.returns-in_ok-from_str-in-Ok
returns-in_ok-from_str-in-Ok c =
    let h = c.in-Ok.ensures.cases in
    let text : is_utf8 (bytes_in c.args.body.now (record { from = c.in-Bytes.from; to = c.in-Bytes.to })) ≡ true = is_utf8-from_IsUtf8 _ h.1 in
    rw (c.in-Bytes.is, text, c.in_ok-from_str-in-Ok.ensures, h.0) (refl, refl)

pub returns-in-Err : goal.returns-in-Err
returns-in-Err c =
    let h = c.in-Err.ensures.cases in
    let text : is_utf8 (bytes_in c.args.body.now (record { from = c.in-Bytes.from; to = c.in-Bytes.to })) ≡ false = not_text _ h.0 in
    rw (c.in-Bytes.is, text) refl
