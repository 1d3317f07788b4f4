use Rattle.std.proofs.Common.{◌∙◌, ℕ, List, Bor, sym, arith}
use Rattle.std.specs.Str.{bytes_eq}
use Rattle.name_index.proofs.KeyFacts.{length-texts_of, place-texts_of, place-within, position-found, position-missing}
use Rattle.name_index.specs.Keys.{texts_of}
use Rattle.name_index.proofs.names.Names.place.Goals as goal

pub returns-in-Some-clause-place : goal.returns-in-Some-clause-place
returns-in-Some-clause-place c =
    let keys = c.self.inside.set.keys in
    let name = c.args.name.now in
    rw (← c.self.view_is) (position-found (λ (key : Bor (List ℕ)). bytes_eq name key.now) keys c.in-Some.place (sym c.in-Some.ensures.index) ∙ place-texts_of keys name)

pub returns-in-None-clause-place : goal.returns-in-None-clause-place
returns-in-None-clause-place c =
    let keys = c.self.inside.set.keys in
    let name = c.args.name.now in
    let missing = position-missing (λ (key : Bor (List ℕ)). bytes_eq name key.now) keys (sym c.in-None.ensures.index) in
    rw (← c.self.view_is) (omega (arith, missing, place-texts_of keys name, place-within (texts_of keys) name, length-texts_of keys, c.len.ensures.len))
