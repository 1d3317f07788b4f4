use Rattle.pb_wire.proofs.CutLaws.{cut_takes, cut_again, cut_fails, cut_fails_again}
use Rattle.pb_wire.proofs.reading.cut_is_spelling.Goals as goal

pub returns-clause-found : goal.returns-clause-found
returns-clause-found c = λ at bytes fs. (cut_takes at bytes fs, cut_again at bytes fs)

pub returns-clause-fault : goal.returns-clause-fault
returns-clause-fault c = λ at bytes e. (cut_fails at bytes e, cut_fails_again at bytes e)
