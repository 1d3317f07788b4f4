use Rattle.std.proofs.Common.{codes, sym, ◌∙◌}
use Rattle.httparse.specs.Spans.{header_bytes}
use Rattle.httparse.specs.declared.spans.HeaderSpan.{HeaderSpan}
use Rattle.http_read.proofs.FieldLemmas.{so_far_next, so_far_second, so_far_bad, so_far_first, is_number_none}
use Rattle.http_read.proofs.fields.content_length.Goals as goal
use Rattle.http_read.proofs.fields.content_length.Goals.{then-is_same+else-is_some+in-Some, else-is_same}

-- what a list of header lines is read with past its end
abbrev none : HeaderSpan
none = record { name = record { start = 0; end = 0 }; value = record { start = 0; end = 0 } }

pub returns-then-is_some : goal.returns-then-is_some
returns-then-is_some c =
    let named = rw c.of.ensures at (sym c.is_same.ensures ∙ c.if-is_same.true) in
    so_far_second (codes "content-length") (header_bytes c.args.text.now) c.args.lines.now c.loop-line.line-index none c.loop-line.found _ c.loop-line-test.true named (sym c.is_some.ensures ∙ c.if-is_some.true) c.loop-line.invariant

pub returns-in_default : goal.returns-in_default
returns-in_default c =
    let named = rw c.of.ensures at (sym c.is_same.ensures ∙ c.if-is_same.true) in
    let bad = rw c.of-then-is_same.ensures at (is_number_none c.of-then-is_same.result.now c.in_default.ensures) in
    so_far_bad (codes "content-length") (header_bytes c.args.text.now) c.args.lines.now c.loop-line.line-index none c.loop-line.found _ c.loop-line-test.true named (sym c.is_some.ensures ∙ c.if-is_some.false) bad c.loop-line.invariant

pub loop-line-preserved : goal.loop-line-preserved
loop-line-preserved c =
    elim c.if-is_same.branch [
      | then-is_same+else-is_some+in-Some w ↦
          let named = rw c.of.ensures at (sym c.is_same.ensures ∙ w.if-is_same.true) in
          let read = rw w.of-then-is_same.ensures at w.in-Some.ensures in
          let next = so_far_first (codes "content-length") (header_bytes c.args.text.now) c.args.lines.now c.loop-line.line-index none c.loop-line.found _ w.in-Some.length c.loop-line-test.true named (sym w.is_some.ensures ∙ w.if-is_some.false) read c.loop-line.invariant in
          rw w.found-is next
      | else-is_same w ↦
          let other = rw c.of.ensures at (sym c.is_same.ensures ∙ w.if-is_same.false) in
          rw w.found-is (so_far_next (codes "content-length") (header_bytes c.args.text.now) c.args.lines.now c.loop-line.line-index none c.loop-line.found _ c.loop-line-test.true other c.loop-line.invariant)
    ]
