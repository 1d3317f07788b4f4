use Rattle.raptor_rounds.specs.declared.bags.StopBags.{StopBags}
use Rattle.raptor_rounds.proofs.ArenaLemmas.{bags_more, still_more}
use Rattle.raptor_rounds.proofs.bags.make_stops.Goals as goal

pub loop-alloc-init : goal.loop-alloc-init
loop-alloc-init c = ((λ arena each. each), (λ stop place time penalty h. h))

pub loop-alloc-preserved : goal.loop-alloc-preserved
loop-alloc-preserved c =
    let was = c.loop-alloc.invariant in
    let bags = c.loop-alloc.bags.items in
    let at : StopBags = record { bags = c.new.result } in
    rw c.in_ok-push.ensures.items ((λ arena each. bags_more arena bags at c.new.ensures.items (was.0 arena each)), (λ stop place time penalty h. still_more bags at stop place time penalty (was.1 stop place time penalty h)))
