use Rattle.std.proofs.Common.{refl, sym, ◌∙◌}
use Rattle.http_read.specs.Head.{method_of}
use Rattle.http_read.proofs.head.method_of.Goals as goal

pub returns-then-eq : goal.returns-then-eq
unfolding method_of
returns-then-eq c =
    let get = rw c.as_slice.ensures at (sym c.eq.ensures ∙ c.if-eq.true) in
    rw get refl

pub returns-then-eq-2 : goal.returns-then-eq-2
unfolding method_of
returns-then-eq-2 c =
    let get = rw c.as_slice.ensures at (sym c.eq.ensures ∙ c.if-eq.false) in
    let post = rw c.as_slice-else-eq.ensures at (sym c.eq-else-eq.ensures ∙ c.if-eq-2.true) in
    rw (get, post) refl

pub returns-else-eq-2 : goal.returns-else-eq-2
unfolding method_of
returns-else-eq-2 c =
    let get = rw c.as_slice.ensures at (sym c.eq.ensures ∙ c.if-eq.false) in
    let post = rw c.as_slice-else-eq.ensures at (sym c.eq-else-eq.ensures ∙ c.if-eq-2.false) in
    rw (get, post) refl
