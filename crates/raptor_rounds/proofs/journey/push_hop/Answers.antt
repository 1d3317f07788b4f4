use Rattle.raptor_rounds.proofs.JourneyLemmas.{alight_within, board_within, ride_read, row_within, two_pushed}
use Rattle.raptor_rounds.proofs.journey.push_hop.Goals as goal

pub call-requires-clause-position : goal.call-requires-clause-position
call-requires-clause-position g c =
    let t = c.args.timetable.now in
    board_within (g.T.Timetable.blocks t) (g.T.Timetable.runs t) (g.met.T.Timetable.stands t) c.args.node.now c.block.result.now c.index-block-node.result c.block.ensures c.index-block-node.is c.requires.0 c.requires.1

pub call-requires-2-clause-row : goal.call-requires-2-clause-row
call-requires-2-clause-row g c =
    let t = c.args.timetable.now in
    row_within (g.T.Timetable.blocks t) (g.T.Timetable.runs t) (g.met.T.Timetable.stands t) c.args.node.now c.block.result.now c.index-block-node.result c.block.ensures c.index-block-node.is c.requires.0 c.requires.1

pub call-requires-2-clause-position : goal.call-requires-2-clause-position
call-requires-2-clause-position g c =
    let t = c.args.timetable.now in
    alight_within (g.T.Timetable.blocks t) (g.T.Timetable.runs t) (g.met.T.Timetable.stands t) c.args.node.now c.block.result.now c.index-block-node.result c.block.ensures c.index-block-node.is c.requires.0 c.requires.1

pub returns : goal.returns
returns g c = λ h hop.
    let t = c.args.timetable.now in
    let lane = c.index-block-node.result in
    let name = c.in_ok-name.name in
    rw hop.walk_is (two_pushed c.args.legs.now.items _ _ _ _ _ c.in_ok-push.ensures.items c.in_ok-push-2.ensures.items
    (ride_read (g.T.Timetable.blocks t) (g.T.Timetable.runs t) (g.met.T.Timetable.stands t) c.args.node.now c.block.result.now lane c.block.ensures c.index-block-node.is h hop
    name c.call.result c.call-2.result (rw c.in_ok-name.ensures c.name.ensures) c.call.ensures c.call-2.ensures))
