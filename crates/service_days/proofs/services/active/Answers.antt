use Rattle.std.proofs.Common.{w32}
use Rattle.std.proofs.lemmas.Int.{to_z-of_z}
use Rattle.service_days.proofs.services.active.Goals as goal

pub returns : goal.returns
returns c = rw (to_z-of_z w32 c.args.day c.ranges.day, c.in_ok-services.ensures) at c.on.ensures
