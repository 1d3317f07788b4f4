use Rattle.walk_table.proofs.reach.points_of.Goals as goal

pub returns-in-Stop : goal.returns-in-Stop
returns-in-Stop c = rw c.in-Stop.is c.stop_points.ensures
