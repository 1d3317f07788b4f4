use Rattle.rt_resolve.proofs.TimeLemmas.{later}
use Rattle.rt_resolve.proofs.moving.shifted.Goals as goal

pub returns : goal.returns
returns c =
    let call = c.args.call.now in
    let arrival = later call.arrival c.args.arrival.seconds c.requires.arrival c.args.arrival.within in
    let departure = later call.departure c.args.departure.seconds c.requires.departure c.args.departure.within in
    λ i. record { stop = call.stop; seq = call.seq; arrival = arrival i; departure = departure i; board = call.board; alight = call.alight }
