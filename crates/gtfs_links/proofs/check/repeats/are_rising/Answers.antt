use Rattle.std.proofs.Common.{◌<◌, ◌<ℤ◌, ℤ, arith, get_or, length, refl}
use Rattle.std.proofs.lemmas.List.{get_or_default}
use Rattle.std.proofs.lemmas.Option.{slice_get_read}
use Rattle.name_index.proofs.KeyFacts.{place-within}
use Rattle.otp_model.specs.Sights.{place_of}
use Rattle.gtfs_links.proofs.KeyFacts.{number_is}
use Rattle.gtfs_links.proofs.RepeatFacts.{rising_next}
use Rattle.gtfs_links.proofs.check.repeats.are_rising.Goals as goal

pub index_mut-requires : goal.index_mut-requires
index_mut-requires g c =
    let names = c.args.names.now in
    let row = c.index-rows-place.result in
    let owner = number_is names g.R.Identified.id_of c.args.numbers.now c.args.rows.now c.loop-place.place row c.requires.numbers (omega arith) c.index-rows-place.is in
    omega (arith, owner, place-within names (g.R.Identified.id_of row))

pub loop-place-init : goal.loop-place-init
loop-place-init g c = record {
  rising = record { reached = λ k row less at d. absurd (omega (arith, less)); apart = λ k row less at. absurd (omega (arith, less)) };
  room = omega (arith, c.in_ok-greatest.ensures.len, c.len.ensures);
}

pub loop-place-preserved : goal.loop-place-preserved
loop-place-preserved g c =
    let id_of = g.R.Identified.id_of in
    let part_of = g.R.Keyed.part_of in
    let names = c.args.names.now in
    let rows = c.args.rows.now in
    let i = c.loop-place.place in
    let row = c.index-rows-place.result in
    let owner = number_is names id_of c.args.numbers.now rows i row c.requires.numbers (omega arith) c.index-rows-place.is in
    let at = slice_get_read rows (length rows) i row refl (omega arith) c.index-rows-place.is in
    let inside : place_of names (id_of row) < length c.loop-place.greatest.items = omega (arith, place-within names (id_of row), c.loop-place.greatest.ok.0) in
    let raised = c.if-not-is_raised.ensures in
    let above : (d : ℤ) → get_or c.loop-place.greatest.items (place_of names (id_of row)) d <ℤ part_of row = λ d.
    let value = rw owner at c.index_mut.ensures.value in
    let default = get_or_default c.loop-place.greatest.items (place_of names (id_of row)) d c.index_mut.result.now inside in
    rw (default, ← value) raised.0 in
    record {
      rising = rw (owner, raised.1) (rising_next names id_of part_of rows c.loop-place.greatest.items i row (omega arith) at above c.loop-place.invariant.rising inside);
      room = omega arith;
    }

pub returns : goal.returns
returns g c = λ yes k row less at. c.loop-place.invariant.rising.apart k row (omega (arith, less)) at
