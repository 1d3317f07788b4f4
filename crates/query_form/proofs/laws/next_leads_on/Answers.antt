use Rattle.query_form.proofs.LeadsOn.{leads_on}
use Rattle.query_form.proofs.laws.next_leads_on.Goals as goal

pub returns : goal.returns
returns c = leads_on
