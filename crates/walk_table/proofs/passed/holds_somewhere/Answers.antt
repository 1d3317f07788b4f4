use Rattle.std.proofs.Common.{◌↔◌, List, sym, subst}
use Rattle.std.specs.List.{Contains}
use Rattle.otp_model.specs.declared.timetable.Point.{Point}
use Rattle.walk_table.specs.Passed.{HasMeantPoint}
use Rattle.walk_table.proofs.PassedLemmas.{somewhere_both, somewhere_near}
use Rattle.walk_table.proofs.TestLemmas.{at_most, refuted}
use Rattle.walk_table.proofs.passed.holds_somewhere.Goals as goal

pub returns-then-bars : goal.returns-then-bars
returns-then-bars c =
    let stops = c.args.stops.now in
    let row = c.args.row.now in
    let from = subst (λ (ps : List Point). (p : Point) → Contains ps p ↔ HasMeantPoint stops row.from p) (sym c.deref.ensures.value) c.in_ok-from.ensures in
    let to = subst (λ (ps : List Point). (p : Point) → Contains ps p ↔ HasMeantPoint stops row.to p) (sym c.deref-then-bars.ensures.value) c.in_ok-to.ensures in
    let same = somewhere_both stops row c.deref.result.now c.deref-then-bars.result.now c.if-row.false (c.bars.ensures.0 c.if-bars.true) from to in
    (λ t. same.0 (c.are_both_filled.ensures.0 t), λ h. c.are_both_filled.ensures.1 (same.1 h))

pub returns : goal.returns
returns c =
    let stops = c.args.stops.now in
    let row = c.args.row.now in
    let from = subst (λ (ps : List Point). (p : Point) → Contains ps p ↔ HasMeantPoint stops row.from p) (sym c.deref-2.ensures.value) c.in_ok-from.ensures in
    let to = subst (λ (ps : List Point). (p : Point) → Contains ps p ↔ HasMeantPoint stops row.to p) (sym c.deref-3.ensures.value) c.in_ok-to.ensures in
    let same = somewhere_near stops row c.deref-2.result.now c.deref-3.result.now c.if-row.false (at_most c.is_in_seat.result 3 row.kind c.is_in_seat.ensures c.if-is_in_seat.false) (refuted c.bars.result _ c.bars.ensures c.if-bars.false) from to in
    (λ t. same.0 (c.are_some_near.ensures.0 t), λ h. c.are_some_near.ensures.1 (same.1 h))
