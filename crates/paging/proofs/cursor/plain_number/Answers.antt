use Rattle.paging.proofs.NumberFacts.{small_number}
use Rattle.paging.proofs.cursor.plain_number.Goals as goal

pub returns-clause-small : goal.returns-clause-small
returns-clause-small c = small_number c.args.most c.args.text.now c.number.result c.if-text-most.false c.number.ensures.value
