use Rattle.rt_reader.proofs.MessageLaws.{spelt_exactly, spelt_once}
use Rattle.rt_reader.proofs.reading.one_message.Goals as goal

pub returns-clause-spelt : goal.returns-clause-spelt
returns-clause-spelt c = spelt_exactly c.cut_is_spelling.ensures.found

pub returns-clause-one : goal.returns-clause-one
returns-clause-one c = spelt_once c.cut_is_spelling.ensures.found
