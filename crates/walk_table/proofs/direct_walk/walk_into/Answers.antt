use Rattle.std.proofs.Common.{rules, FitsSigned, w64}
use Rattle.std.proofs.lemmas.Int.{to_z-of_z}
use Rattle.walk_table.proofs.DirectLemmas.{into_point}
use Rattle.walk_table.proofs.direct_walk.walk_into.Goals as goal

pub returns-in-Stop : goal.returns-in-Stop
returns-in-Stop c = rw c.in-Stop.is c.walk_into_stop.ensures

pub returns-in-At : goal.returns-in-At
returns-in-At c =
    let x : FitsSigned w64 c.in-At.x = search rules in
    let y : FitsSigned w64 c.in-At.y = search rules in
    rw c.in-At.is (into_point c.args.edges.now c.args.p.now (record { x = c.in-At.x; y = c.in-At.y }) c.walk_between.result (simp to_z-of_z at c.walk_between.ensures))
