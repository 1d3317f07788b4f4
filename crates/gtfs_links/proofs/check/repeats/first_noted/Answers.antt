use Rattle.std.proofs.Common.{◌∙◌, arith, length, refl, sym, take}
use Rattle.std.proofs.lemmas.Option.{slice_get_read}
use Rattle.name_index.proofs.TestFacts.{list_any-map}
use Rattle.gtfs_links.specs.Keys.{is_key, is_same_key, key_in}
use Rattle.gtfs_links.proofs.KeyFacts.{key_more, number_is}
use Rattle.gtfs_links.proofs.RepeatFacts.{apart_next, repeat_found, repeat_none}
use Rattle.gtfs_links.proofs.check.repeats.first_noted.Goals as goal

pub loop-place-preserved : goal.loop-place-preserved
loop-place-preserved g c =
    let id_of = g.R.Identified.id_of in
    let part_of = g.R.Keyed.part_of in
    let names = c.args.names.now in
    let rows = c.args.rows.now in
    let i = c.loop-place.place in
    let row = c.index-rows-place.result in
    let inv = c.loop-place.invariant in
    let owner = number_is names id_of c.args.numbers.now rows i row c.requires (omega arith) c.index-rows-place.is in
    let had = rw (c.key_of.ensures, owner) at c.in_ok-note.ensures.had in
    let now = rw (c.key_of.ensures, owner) at c.in_ok-note.ensures.keys in
    let new = sym had ∙ c.if-branch.false in
    let at = slice_get_read rows (length rows) i row refl (omega arith) c.index-rows-place.is in
    record {
      keys = key_more names id_of part_of rows i row c.loop-place.keys c.note.new.self (omega arith) c.index-rows-place.is inv.keys new now;
      apart = apart_next (is_same_key names id_of part_of) rows i row at inv.apart (sym (list_any-map (is_key (key_in names id_of part_of row)) (key_in names id_of part_of) (take i rows)) ∙ (rw inv.keys at new));
    }

pub returns-then-branch : goal.returns-then-branch
returns-then-branch g c =
    let id_of = g.R.Identified.id_of in
    let part_of = g.R.Keyed.part_of in
    let names = c.args.names.now in
    let rows = c.args.rows.now in
    let i = c.loop-place.place in
    let row = c.index-rows-place.result in
    let inv = c.loop-place.invariant in
    let owner = number_is names id_of c.args.numbers.now rows i row c.requires (omega arith) c.index-rows-place.is in
    let had = rw (c.key_of.ensures, owner) at c.in_ok-note.ensures.had in
    let found = sym had ∙ c.if-branch.true in
    let at = slice_get_read rows (length rows) i row refl (omega arith) c.index-rows-place.is in
    repeat_found (is_same_key names id_of part_of) rows i row at inv.apart (sym (list_any-map (is_key (key_in names id_of part_of row)) (key_in names id_of part_of) (take i rows)) ∙ (rw inv.keys at found))

pub returns : goal.returns
returns g c = repeat_none (is_same_key c.args.names.now g.R.Identified.id_of g.R.Keyed.part_of) c.args.rows.now c.loop-place.place (omega arith) c.loop-place.invariant.apart
