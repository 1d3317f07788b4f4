use Rattle.otp_model.specs.Limits.{most_edges}
use Rattle.walk_table.proofs.CountLemmas.{no_more_edges}
use Rattle.walk_table.proofs.all_edges.edges.Goals as goal

pub returns-clause-few : goal.returns-clause-few
returns-clause-few c = no_more_edges most_edges c.args.stops.now c.args.transfers.now c.args.profile.now c.in_ok-from.from c.in_ok-from.ensures.each c.in_ok-from.ensures.whole c.in_ok-from.ensures.count
