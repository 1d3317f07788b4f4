use Rattle.std.proofs.Common.{sym, ◌∙◌}
use Rattle.http_read.specs.Lines.{is_empty_line}
use Rattle.http_read.proofs.scan.is_empty_line.Goals as goal

pub returns-then-eq : goal.returns-then-eq
unfolding is_empty_line
returns-then-eq c =
    let e = rw c.as_slice.ensures at (sym c.eq.ensures ∙ c.if-eq.true) in
    rw e c.if-eq.true

pub returns-else-eq : goal.returns-else-eq
unfolding is_empty_line
returns-else-eq c =
    let e = rw c.as_slice.ensures at (sym c.eq.ensures ∙ c.if-eq.false) in
    let f = rw c.as_slice-else-eq.ensures at c.eq-else-eq.ensures in
    rw e f
