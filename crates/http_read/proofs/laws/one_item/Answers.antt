use Rattle.http_read.proofs.OneItemLemmas.{one_item, one_rest}
use Rattle.http_read.proofs.SomeItemLemmas.{some_item}
use Rattle.http_read.proofs.laws.one_item.Goals as goal

pub returns-clause-some : goal.returns-clause-some
returns-clause-some c = some_item

pub returns-clause-item : goal.returns-clause-item
returns-clause-item c = one_item

pub returns-clause-rest : goal.returns-clause-rest
returns-clause-rest c = one_rest
