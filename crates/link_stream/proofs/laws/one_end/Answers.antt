use Rattle.link_stream.proofs.EndLemmas.{has_one_end}
use Rattle.link_stream.proofs.laws.one_end.Goals as goal

pub returns : goal.returns
returns c = has_one_end c.one_item.ensures.item
