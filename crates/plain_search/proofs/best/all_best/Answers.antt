use Rattle.plain_search.proofs.best.all_best.Goals as goal

pub all_offers-requires-clause-access : goal.all_offers-requires-clause-access
all_offers-requires-clause-access c = rw c.deref.ensures.value c.in_ok-access.ensures.reached

pub all_offers-requires-clause-egress : goal.all_offers-requires-clause-egress
all_offers-requires-clause-egress c = rw c.deref-2.ensures.value c.in_ok-egress.ensures.reached
