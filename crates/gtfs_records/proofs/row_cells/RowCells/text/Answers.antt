use Rattle.std.proofs.Common.{◌≡◌, ℕ, List, true, false, inl, inr, refl}
use Rattle.std.proofs.lemmas.Bool.{cases_Bool}
use Rattle.std.proofs.lemmas.Str.{IsUtf8-from_is_utf8, is_utf8-from_IsUtf8}
use Rattle.std.specs.Prelude.{IsUtf8}
use Rattle.std.specs.Str.{is_utf8}
use Rattle.gtfs_records.specs.Table.{cells}
use Rattle.gtfs_records.proofs.row_cells.RowCells.text.Goals as goal

not_text : (bs : List ℕ) → ¬ (IsUtf8 bs) → is_utf8 bs ≡ false
not_text bs refused = elim (cases_Bool (is_utf8 bs)) [ inl good ↦ absurd (refused (IsUtf8-from_is_utf8 bs good)) | inr bad ↦ bad ]

pub returns-in-Ok : goal.returns-in-Ok
returns-in-Ok c =
    let h = c.in-Ok.ensures.cases in
    let text : is_utf8 (cells c.args.self.now c.args.column) ≡ true = rw (← c.cell.ensures) (is_utf8-from_IsUtf8 c.cell.result.now h.1) in
    rw (text, h.0, c.cell.ensures) refl

pub returns-in-Err : goal.returns-in-Err
returns-in-Err c =
    let h = c.in-Err.ensures.cases in
    let text : is_utf8 (cells c.args.self.now c.args.column) ≡ false = rw (← c.cell.ensures) (not_text c.cell.result.now h.0) in
    rw (c.fault.ensures, text) refl
