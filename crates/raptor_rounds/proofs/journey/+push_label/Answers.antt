use Rattle.std.proofs.Common.{arith}
use Rattle.raptor_rounds.proofs.JourneyLemmas.{chain_first, chain_keeps, chain_next, chain_parent, chain_within}
use Rattle.raptor_rounds.proofs.journey.+push_label.Goals as goal

pub node_at-node-requires : goal.node_at-node-requires
node_at-node-requires g t c = chain_within (g.T.Timetable.blocks c.args.timetable.now) c.args.arena.now c.args.label c.requires.0 c.requires.1

pub push_hop-requires : goal.push_hop-requires
push_hop-requires g t c =
    chain_keeps (g.T.Timetable.blocks c.args.timetable.now) c.args.arena.now c.args.label c.node_at-node.result c.node_at-node.ensures c.requires.0 c.requires.1

pub push_label-requires : goal.push_label-requires
push_label-requires g t c κs within =
    let next = chain_parent (g.T.Timetable.blocks c.args.timetable.now) c.args.arena.now c.args.label c.node_at-node.result c.node_at-node.ensures c.in-Some.parent c.in-Some.is c.requires.0 c.requires.1 in
    (omega (arith, next.0, c.decreases), (within, next.1))

pub push_hop-requires-in-Some : goal.push_hop-requires-in-Some
push_hop-requires-in-Some g t c =
    chain_keeps (g.T.Timetable.blocks c.args.timetable.now) c.args.arena.now c.args.label c.node_at-node.result c.node_at-node.ensures c.requires.0 c.requires.1

pub returns-in_ok-push_hop-in-None : goal.returns-in_ok-push_hop-in-None
returns-in_ok-push_hop-in-None g t c =
    chain_first (g.T.Timetable.blocks c.args.timetable.now) c.args.arena.now c.args.label c.node_at-node.result c.node_at-node.ensures _ _ c.in-None.is c.in_ok-push_hop-in-None.ensures

pub returns-in_ok-push_hop-in-Some : goal.returns-in_ok-push_hop-in-Some
returns-in_ok-push_hop-in-Some g t c =
    chain_next (g.T.Timetable.blocks c.args.timetable.now) c.args.arena.now c.args.label c.node_at-node.result c.node_at-node.ensures c.in-Some.parent c.in-Some.is _ _ _ c.in_ok-push_label-in-Some.ensures
    c.in_ok-push_hop-in-Some.ensures
