use Rattle.std.proofs.Common.{arith}
use Rattle.std.proofs.lemmas.Grind.{common_steps}
use Rattle.name_index.proofs.SightFacts.{noted_all}
use Rattle.service_days.proofs.ServiceFacts.{noted_all-seen}
use Rattle.service_days.proofs.services.note_services.Goals as goal

pub loop-left-init : goal.loop-left-init
loop-left-init g c = λ seen e. noted_all-seen c.args.names.now seen _ e

pub loop-left-preserved : goal.loop-left-preserved
unfolding noted_all
loop-left-preserved g c = λ seen e. grind (arith, common_steps, c.loop-left.invariant seen e)

pub returns : goal.returns
unfolding noted_all
returns g c = λ seen e. grind (arith, common_steps, c.loop-left.invariant seen e)
