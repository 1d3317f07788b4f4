use Rattle.std.proofs.Common.{◌+◌, ◌-◌, ◌≤◌, length, drop, get_or, Ok, refl, sym, ap, ◌∙◌, length-drop, arith}
use Rattle.std.proofs.lemmas.Result.{err_from_is_err_and}
use Rattle.std.proofs.lemmas.List.{length-take}
use Rattle.pb_wire.specs.declared.field.FieldValue.TheVariants as value
use Rattle.pb_wire.specs.declared.field.Field.{Field}
use Rattle.pb_wire.specs.Wire.{LiesWithin}
use Rattle.rt_reader.specs.Fields.{Part, bytes_in}
use Rattle.rt_reader.proofs.WalkLoop.{loop_wrong, loop_value, loop_ends, loop_done, loop_done_value, part_wrong_cut, part_value_cut, wire_fails, lies_in_body}
use Rattle.rt_reader.proofs.draft.read_part.Goals as goal

abbrev no_field : Field
no_field = record { number = 0; at = 0; value = value.Varint 0 }

pub returns-in_err-fields : goal.returns-in_err-fields
returns-in_err-fields g c =
    let d = g.D.Draft in
    let p : Part = record { from = c.args.from; to = c.args.to } in
    let e = err_from_is_err_and c.from_residual.result c.from_residual.ensures.1 in
    rw (e.1, e.2) (wire_fails d.table d.seen d.add d.blank c.args.body.now p c.in_err-fields.field-0.0 c.in_err-fields.ensures.exact)

pub put-requires : goal.put-requires
put-requires g c =
    let all = c.in_ok-fields.ensures.within in
    let ordered = c.requires.ordered in
    let within = c.requires.within in
    let end : c.args.from + length (bytes_in c.args.body.now (record { from = c.args.from; to = c.args.to })) ≤ length c.args.body.now = omega (arith, length-drop c.args.from c.args.body.now, length-take (c.args.to - c.args.from) (drop c.args.from c.args.body.now)) in
    let lt = c.loop-field-test.true in
    let items_is = c.deref-field-items.ensures.value in
    let i = c.loop-field.field-index in
    let in_part : LiesWithin c.args.from (c.args.from + length (bytes_in c.args.body.now (record { from = c.args.from; to = c.args.to }))) (get_or c.deref-field-items.result.now i no_field) = rw items_is (all i no_field (rw items_is at lt)) in
    lies_in_body _ _ _ (get_or c.deref-field-items.result.now i no_field) end in_part

pub returns-in_err-put : goal.returns-in_err-put
returns-in_err-put g c =
    let d = g.D.Draft in
    let body = c.args.body.now in
    let p : Part = record { from = c.args.from; to = c.args.to } in
    let items = c.deref-field-items.result.now in
    let cut_is = c.in_ok-fields.ensures.exact ∙ ap Ok (sym c.deref-field-items.ensures.value) in
    let e = err_from_is_err_and c.from_residual-in_err-put.result c.from_residual-in_err-put.ensures.1 in
    rw (e.1, e.2) (loop_ends d.table d.seen (d.add body) body c.loop-field.draft items c.loop-field.field-index no_field _ _ c.in_err-put.field-0.0 c.loop-field-test.true c.in_err-put.ensures c.loop-field.invariant.wrong (part_wrong_cut d.table d.seen d.add d.blank body p items cut_is))

pub loop-field-init : goal.loop-field-init
loop-field-init g c = rw c.empty-draft.ensures (record { wrong = refl; value = refl })

pub loop-field-preserved : goal.loop-field-preserved
loop-field-preserved g c =
    let d = g.D.Draft in
    let body = c.args.body.now in
    let items = c.deref-field-items.result.now in
    let i = c.loop-field.field-index in
    record {
      wrong = loop_wrong d.table d.seen (d.add body) body c.loop-field.draft c.put.new.self items i no_field _ c.loop-field-test.true c.in_ok-put.ensures.0 c.in_ok-put.ensures.1 c.loop-field.invariant.wrong;
      value = loop_value (d.add body) c.loop-field.draft c.put.new.self items i no_field _ c.loop-field-test.true c.in_ok-put.ensures.1 c.loop-field.invariant.value;
    }

pub returns : goal.returns
returns g c =
    let d = g.D.Draft in
    let body = c.args.body.now in
    let p : Part = record { from = c.args.from; to = c.args.to } in
    let items = c.deref-field-items.result.now in
    let cut_is = c.in_ok-fields.ensures.exact ∙ ap Ok (sym c.deref-field-items.ensures.value) in
    let wrong_is = part_wrong_cut d.table d.seen d.add d.blank body p items cut_is in
    let value_is = part_value_cut d.add d.blank body p items cut_is in
    let past = c.loop-field-test.false in (
      wrong_is ∙ loop_done d.table d.seen (d.add body) body c.loop-field.draft items c.loop-field.field-index _ past c.loop-field.invariant.wrong,
      sym (value_is ∙ loop_done_value (d.add body) c.loop-field.draft items c.loop-field.field-index _ past c.loop-field.invariant.value),
    )
