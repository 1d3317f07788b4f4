use Rattle.raptor_rounds.proofs.marks.is_marked.Goals as goal

pub returns : goal.returns
returns c = λ met. rw c.deref.ensures.value at (c.is_met.ensures met)
