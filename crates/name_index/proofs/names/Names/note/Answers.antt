use Rattle.name_index.proofs.KeyFacts.{noted-texts_of}
use Rattle.name_index.proofs.names.Names.note.Goals as goal

pub returns : goal.returns
returns c = rw (← c.self.view_is, c.in_ok-insert_full.ensures.keys) (noted-texts_of c.self.inside.set.keys c.args.name)
