use Rattle.std.proofs.Common.{rules, FitsSigned, w64}
use Rattle.std.proofs.lemmas.Int.{to_z-of_z}
use Rattle.walk_table.proofs.DirectLemmas.{direct_point}
use Rattle.walk_table.proofs.direct_walk.direct.Goals as goal

pub returns-in-Stop : goal.returns-in-Stop
returns-in-Stop c = rw c.in-Stop.is c.direct_from.ensures

pub returns-in-At : goal.returns-in-At
returns-in-At c =
    let x : FitsSigned w64 c.in-At.x = search rules in
    let y : FitsSigned w64 c.in-At.y = search rules in
    rw c.in-At.is (direct_point c.args.edges.now (record { x = c.in-At.x; y = c.in-At.y }) c.args.to.now c.walk_into.result (simp to_z-of_z at c.walk_into.ensures))
