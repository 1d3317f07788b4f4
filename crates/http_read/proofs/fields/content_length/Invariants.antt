use Rattle.std.proofs.Common.{map, drop, codes}
use Rattle.httparse.specs.Spans.{header_bytes}
use Rattle.http_read.specs.Fields.{values_of}
use Rattle.http_read.proofs.FieldLemmas.{SoFar}
use Rattle.http_read.proofs.fields.content_length.Given as goal

abbrev pub invariant-loop-line : goal.invariant-loop-line
invariant-loop-line l = SoFar l.found (values_of (codes "content-length") (map (header_bytes l.text) l.lines)) (values_of (codes "content-length") (map (header_bytes l.text) (drop l.line-index l.lines)))
