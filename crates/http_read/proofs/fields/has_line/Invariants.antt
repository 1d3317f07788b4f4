use Rattle.std.proofs.Common.{◌≡◌, map, drop}
use Rattle.httparse.specs.Spans.{header_bytes}
use Rattle.http_read.specs.Fields.{has_line}
use Rattle.http_read.proofs.fields.has_line.Given as goal

abbrev pub invariant-loop-line : goal.invariant-loop-line
invariant-loop-line l = has_line l.name (map (header_bytes l.text) (drop l.line-index l.lines)) ≡ has_line l.name (map (header_bytes l.text) l.lines)
