use Rattle.change_buffer.proofs.ScheduleLemmas.{sched_in_order}
use Rattle.change_buffer.proofs.laws.schedules_rise.Goals as goal

pub returns : goal.returns
returns c = sched_in_order
