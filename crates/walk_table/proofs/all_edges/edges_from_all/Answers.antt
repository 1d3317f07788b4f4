use Rattle.std.proofs.lemmas.Result.{err_from_is_err_and}
use Rattle.walk_table.proofs.EdgeLemmas.{cause_all, lists_more}
use Rattle.walk_table.proofs.all_edges.edges_from_all.Goals as goal

pub returns-in_err-list-clause-fault : goal.returns-in_err-list-clause-fault
returns-in_err-list-clause-fault c =
    let p = err_from_is_err_and c.from_residual-in_err-list.result c.from_residual-in_err-list.ensures.1 in
    rw (p.1, p.2) (cause_all c.args.ground.now.stops.now c.args.transfers.now c.args.ground.now.profile.now c.loop-number.from c.loop-number.number c.loop-number.room c.in_err-list.field-0.0 c.loop-number.invariant.each c.loop-number.invariant.whole c.loop-number.invariant.room c.in_err-list.ensures.fault)

pub loop-number-preserved : goal.loop-number-preserved
loop-number-preserved c =
    let more = lists_more c.args.ground.now.stops.now c.args.transfers.now c.args.ground.now.profile.now c.loop-number.from c.push.new.self c.in_ok-list.list c.loop-number.number c.loop-number.room c.in_ok-push.ensures.ok c.loop-number.invariant.each c.loop-number.invariant.whole c.loop-number.invariant.room c.in_ok-list.ensures.edges c.in_ok-list.ensures.few in
    record { each = more.0; whole = more.1; room = rw c.len-room.ensures more.2 }
