use Rattle.std.proofs.Common.{◌≡◌, ◌-◌, ◌+◌, length, Err, sym, arith}
use Rattle.std.proofs.lemmas.Bool.{eqb-true}
use Rattle.std.proofs.lemmas.List.{nil_from_length}
use Rattle.std.proofs.lemmas.Result.{err_from_is_err_and}
use Rattle.pb_wire.specs.Cutting.{cut}
use Rattle.pb_wire.proofs.FieldLaws.{field_shorter}
use Rattle.pb_wire.proofs.CutLoop.{cut_starts, cut_goes_on, cut_ends, cut_is_done, or_memory}
use Rattle.pb_wire.proofs.reading.all.Goals as goal

pub loop-rest-init : goal.loop-rest-init
loop-rest-init c = record { within = omega arith; so_far = rw c.new-found.ensures.items (cut_starts c.args.at c.args.bytes.now) }

pub returns-in_err-field : goal.returns-in_err-field
returns-in_err-field c =
    let p = err_from_is_err_and c.from_residual.result c.from_residual.ensures.1 in
    let here = c.args.at + (length c.args.bytes.now - length c.loop-rest.rest.now) in
    let total = cut c.args.at c.args.bytes.now in
    rw (p.1, p.2) (or_memory (λ f. total ≡ Err f) c.in_err-field.field-0.0 (cut_ends c.loop-rest.found.items here c.loop-rest.rest.now c.in_err-field.field-0.0 total (sym c.loop-rest-test.ensures) c.in_err-field.ensures c.loop-rest.invariant.so_far))

pub loop-rest-smaller : goal.loop-rest-smaller
loop-rest-smaller c = field_shorter _ _ _ _ c.in_ok-field.ensures

pub loop-rest-preserved : goal.loop-rest-preserved
loop-rest-preserved c =
    let whole = length c.args.bytes.now in
    let within = c.loop-rest.invariant.within in
    let shorter = field_shorter _ _ _ _ c.in_ok-field.ensures in
    record {
      within = omega arith;
      so_far = rw c.in_ok-push.ensures.items (cut_goes_on c.loop-rest.found.items c.args.at whole c.loop-rest.rest.now c.in_ok-field.field c.in_ok-field.after.now (cut c.args.at c.args.bytes.now) within c.in_ok-field.ensures c.loop-rest.invariant.so_far);
    }

pub returns : goal.returns
returns c =
    let none = nil_from_length c.loop-rest.rest.now (eqb-true _ _ (sym c.loop-rest-test.ensures)) in
    cut_is_done c.loop-rest.found.items _ _ c.loop-rest.rest.now (cut c.args.at c.args.bytes.now) none c.loop-rest.invariant.so_far
