use Rattle.std.proofs.Common.{◌≡◌, ◌+◌, ◌-◌, ◌*◌, ◌≤◌, ℤ, ℕ, List, length, take, drop, subst, sym, ap, ◌∙◌, arith}
use Rattle.trip_patterns.proofs.ColumnLemmas.{column_part, column_within}
use Rattle.trip_patterns.proofs.lane.column_of.Goals as goal

pub overflow_mul-from : goal.overflow_mul-from
overflow_mul-from c =
    let within = subst (λ (xs : List ℤ). c.args.position * length c.args.rows.now + length c.args.rows.now ≤ length xs) (sym c.requires.columns)
    (column_within (length c.args.pattern.now) c.args.rows.now c.args.position c.requires.position) in
    omega arith

pub overflow_add-result : goal.overflow_add-result
overflow_add-result c =
    let within = subst (λ (xs : List ℤ). c.args.position * length c.args.rows.now + length c.args.rows.now ≤ length xs) (sym c.requires.columns)
    (column_within (length c.args.pattern.now) c.args.rows.now c.args.position c.requires.position) in
    omega arith

pub offset_bounds-columns-from : goal.offset_bounds-columns-from
offset_bounds-columns-from c =
    let within = subst (λ (xs : List ℤ). c.args.position * length c.args.rows.now + length c.args.rows.now ≤ length xs) (sym c.requires.columns)
    (column_within (length c.args.pattern.now) c.args.rows.now c.args.position c.requires.position) in
    omega arith

pub slice_bounds-result-end : goal.slice_bounds-result-end
slice_bounds-result-end c =
    let within = subst (λ (xs : List ℤ). c.args.position * length c.args.rows.now + length c.args.rows.now ≤ length xs) (sym c.requires.columns)
    (column_within (length c.args.pattern.now) c.args.rows.now c.args.position c.requires.position) in
    omega arith

pub returns : goal.returns
returns c =
    let rows = c.args.rows.now in
    let from = c.args.position * length rows in
    let count : (from + length rows) - from ≡ length rows = omega arith in
    ap (λ (n : ℕ). take n (drop from c.args.columns.now)) count
    ∙ ap (λ (xs : List ℤ). take (length rows) (drop from xs)) c.requires.columns
    ∙ column_part (length c.args.pattern.now) rows c.args.position c.requires.position
