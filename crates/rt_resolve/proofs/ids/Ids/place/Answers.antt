use Rattle.std.proofs.Common.{◌∙◌, map, sym, arith}
use Rattle.std.specs.Prelude.{string_bytes}
use Rattle.std.specs.Str.{bytes_eq}
use Rattle.std.proofs.lemmas.List.{length-map}
use Rattle.name_index.proofs.KeyFacts.{place-within, position-found, position-missing}
use Rattle.rt_resolve.proofs.IdLemmas.{place_key}
use Rattle.rt_resolve.proofs.ids.Ids.place.Goals as goal

pub returns-in-Some-clause-place : goal.returns-in-Some-clause-place
returns-in-Some-clause-place c =
    let keys = c.self.inside.set.keys in
    let id = c.args.id.now in
    rw (← c.self.view_is) (position-found (λ key. bytes_eq id (string_bytes key)) keys c.in-Some.place (sym c.in-Some.ensures.index) ∙ place_key string_bytes keys id)

pub returns-in-None-clause-place : goal.returns-in-None-clause-place
returns-in-None-clause-place c =
    let keys = c.self.inside.set.keys in
    let id = c.args.id.now in
    let missing = position-missing (λ key. bytes_eq id (string_bytes key)) keys (sym c.in-None.ensures.index) in
    rw (← c.self.view_is) (omega (arith, missing, place_key string_bytes keys id, place-within (map string_bytes keys) id, length-map keys string_bytes, c.len.ensures.len))
