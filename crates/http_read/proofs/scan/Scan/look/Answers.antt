use Rattle.std.proofs.Common.{take, get_or, arith, ap, refl, sym, ◌∙◌}
use Rattle.std.proofs.lemmas.Bool.{ne_eqb}
use Rattle.std.proofs.lemmas.List.{take_more}
use Rattle.http_read.specs.Lines.{is_empty_line}
use Rattle.http_read.proofs.ScanLemmas.{scan_byte, scan_blank, scan_line, scan_mark, taken_feed, line_taken}
use Rattle.http_read.proofs.scan.Scan.look.Goals as goal

pub returns-then-bytes-self-ne10-clause-found : goal.returns-then-bytes-self-ne10-clause-found
returns-then-bytes-self-ne10-clause-found c =
    rw (take_more c.args.bytes.now c.args.self.now.at 0 c.requires.room)
    (scan_byte (take c.args.self.now.at c.args.bytes.now) (get_or c.args.bytes.now c.args.self.now.at 0) c.args.self.now (ne_eqb (get_or c.args.bytes.now c.args.self.now.at 0) 10 c.if-bytes-self-ne10.true) c.requires.scan)

pub returns-then-not-is_empty_line-clause-found : goal.returns-then-not-is_empty_line-clause-found
returns-then-not-is_empty_line-clause-found c =
    let s = c.args.self.now in
    let line = ap is_empty_line (line_taken c.args.bytes.now s.line s.at _ c.requires.scan.within c.requires.room c.if-bytes-self-ne10.false refl) ∙ (sym c.is_empty_line.ensures ∙ c.if-not-is_empty_line.true) in
    rw (taken_feed c.args.bytes.now s.at c.requires.room c.if-bytes-self-ne10.false)
    (scan_line (take s.at c.args.bytes.now) s line c.requires.scan)

pub returns-then-self-clause-found : goal.returns-then-self-clause-found
returns-then-self-clause-found c =
    let s = c.args.self.now in
    let line = ap is_empty_line (line_taken c.args.bytes.now s.line s.at _ c.requires.scan.within c.requires.room c.if-bytes-self-ne10.false refl) ∙ (sym c.is_empty_line.ensures ∙ c.if-not-is_empty_line.false) in
    let size = c.requires.scan.size in
    let small = c.requires.small in
    rw (taken_feed c.args.bytes.now s.at c.requires.room c.if-bytes-self-ne10.false)
    (scan_mark (take s.at c.args.bytes.now) s c.if-self.true line c.requires.few (omega arith) c.requires.scan)

pub returns-clause-found : goal.returns-clause-found
returns-clause-found c =
    let s = c.args.self.now in
    let line = ap is_empty_line (line_taken c.args.bytes.now s.line s.at _ c.requires.scan.within c.requires.room c.if-bytes-self-ne10.false refl) ∙ (sym c.is_empty_line.ensures ∙ c.if-not-is_empty_line.false) in
    rw (taken_feed c.args.bytes.now s.at c.requires.room c.if-bytes-self-ne10.false)
    (scan_blank (take s.at c.args.bytes.now) s c.if-self.false line c.requires.scan)
