use Rattle.paging.proofs.CursorFacts.{exact}
use Rattle.paging.proofs.cursor.read_cursor.Goals as goal

pub returns-clause-exact : goal.returns-clause-exact
returns-clause-exact c = exact c.args.text.now c.cursor_in.result c.cursor_in.ensures
