use Rattle.raptor_rounds.proofs.ArenaLemmas.{bags_in_more, still_in_more}
use Rattle.raptor_rounds.proofs.bags.make_bags.Goals as goal

pub loop-alloc-init : goal.loop-alloc-init
loop-alloc-init c = ((λ arena stop each. each), (λ place time penalty h. h))

pub loop-alloc-preserved : goal.loop-alloc-preserved
loop-alloc-preserved c =
    let was = c.loop-alloc.invariant in
    let bags = c.loop-alloc.bags.items in
    rw (c.in_ok-push.ensures.items, c.new.ensures) ((λ arena stop each. bags_in_more arena stop bags (was.0 arena stop each)), (λ place time penalty h. still_in_more bags place time penalty (was.1 place time penalty h)))
