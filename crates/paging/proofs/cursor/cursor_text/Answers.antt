use Rattle.std.proofs.Common.{◌∙◌, ap}
use Rattle.paging.specs.Text.{cursor_of}
use Rattle.paging.proofs.CursorFacts.{reads_back, times_back}
use Rattle.paging.proofs.cursor.cursor_text.Goals as goal

pub returns-clause-reads_back : goal.returns-clause-reads_back
returns-clause-reads_back c =
    ap cursor_of (c.from_string.ensures ∙ (c.in_ok-text.ensures ∙ times_back c.args.cursor.now c.requires)) ∙ reads_back c.args.cursor.now c.requires
