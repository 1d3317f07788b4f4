use Rattle.rt_reader.proofs.MessageLaws.{is_exact, is_only}
use Rattle.rt_reader.proofs.reading.read_message.Goals as goal

pub returns-clause-exact : goal.returns-clause-exact
returns-clause-exact c = is_exact c.cut_is_spelling.ensures.found c.args.bytes.now c.message.result c.message.ensures

pub returns-clause-only : goal.returns-clause-only
returns-clause-only c = is_only c.cut_is_spelling.ensures.found c.args.bytes.now c.message.result c.message.ensures
