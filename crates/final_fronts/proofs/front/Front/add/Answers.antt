use Rattle.final_fronts.proofs.front.Front.add.Goals as goal

pub returns : goal.returns
returns c = rw c.self.view_is at c.in_ok-add.ensures
