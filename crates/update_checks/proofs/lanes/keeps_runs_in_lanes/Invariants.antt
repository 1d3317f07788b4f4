use Rattle.update_checks.proofs.lanes.keeps_runs_in_lanes.Given as goal

abbrev pub ghosts-lanes_with : goal.ghosts-lanes_with
ghosts-lanes_with g a = record { name = a.blank.name; parts = a.blank.parts }

abbrev pub ghosts-lane_from : goal.ghosts-lane_from
ghosts-lane_from g a = record { name = a.blank.name; parts = a.blank.parts }
