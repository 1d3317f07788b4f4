use Rattle.std.proofs.Common.{◌∙◌}
use Rattle.name_index.proofs.KeyFacts.{has-texts_of}
use Rattle.name_index.proofs.names.Names.has.Goals as goal

pub returns : goal.returns
returns c = rw (← c.self.view_is) (c.contains.ensures ∙ has-texts_of c.self.inside.set.keys c.args.name.now)
