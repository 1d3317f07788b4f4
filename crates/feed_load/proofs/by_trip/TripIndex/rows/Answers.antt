use Rattle.std.proofs.Common.{◌≡◌, ◌∷◌, [], ◌++◌, ◌-◌, ℕ, List, length, reverse, append_assoc, refl, ap, sym, subst, ◌∙◌, arith}
use Rattle.std.proofs.lemmas.List.{append-nil, reverse-reverse}
use Rattle.std.proofs.lemmas.Option.{slice_get_within}
use Rattle.feed_load.specs.ByTrip.{IsChain, rows_by}
use Rattle.feed_load.proofs.ChainLemmas.{chain_done, link_at, link_next, link_row, starts_at}
use Rattle.feed_load.proofs.by_trip.TripIndex.rows.Goals as goal

pub loop-from-init : goal.loop-from-init
loop-from-init g c =
    let rows = c.args.rows.now in
    let own : List g.row.R.Denot = reverse (rows_by g.R.TripRow.trip_of rows c.args.trip) in
    record {
      rest = own;
      chain = subst (λ (from : ℕ). IsChain rows c.args.self.now.before.items from own) (sym c.index.ensures)
          (starts_at g.R.TripRow.trip_of (length c.args.self.now.last.items) rows c.args.self.now c.args.trip c.index.result.now c.requires.index c.requires.trip);
      all = rw c.new-own.ensures.items refl;
    }

pub loop-from-preserved : goal.loop-from-preserved
loop-from-preserved g c =
    let rows = c.args.rows.now in
    let before = c.args.self.now.before.items in
    let rest = c.loop-from.invariant.rest in
    let link = link_at rows before c.loop-from.from rest c.loop-from-test.true c.loop-from.invariant.chain in
    let row = link_row rows before c.loop-from.from rest c.index-rows-from.result link c.index-rows-from.is in
    let next = link_next rows before c.loop-from.from rest c.index-in-loop-from.result.now link c.index-in-loop-from.ensures in
    let own : List g.row.R.Denot = c.loop-from.own.items in
    record {
      rest = link.rest;
      chain = subst (λ (from : ℕ). IsChain rows before from link.rest) (sym next) link.chain;
      all = ap (λ (xs : List g.row.R.Denot). xs ++ link.rest) c.in_ok-push.ensures.items
          ∙ (append_assoc own (c.index-rows-from.result ∷ []) link.rest
          ∙ (ap (λ (r : g.row.R.Denot). own ++ (r ∷ link.rest)) row
          ∙ (ap (λ (xs : List g.row.R.Denot). own ++ xs) (sym link.own_is) ∙ c.loop-from.invariant.all)));
    }

pub returns : goal.returns
returns g c =
    let own : List g.row.R.Denot = c.loop-from.own.items in
    let all : List g.row.R.Denot = rows_by g.R.TripRow.trip_of c.args.rows.now c.args.trip in
    let none = chain_done c.args.rows.now c.args.self.now.before.items c.loop-from.from c.loop-from.invariant.rest (omega arith) c.loop-from.invariant.chain in
    let whole : own ≡ reverse all = sym (append-nil own) ∙ (ap (λ (xs : List g.row.R.Denot). own ++ xs) (sym none) ∙ c.loop-from.invariant.all) in
    c.reverse.ensures.items ∙ (ap reverse whole ∙ reverse-reverse all)

pub offset_bounds-rows-from : goal.offset_bounds-rows-from
offset_bounds-rows-from g c =
    let link = link_at c.args.rows.now c.args.self.now.before.items c.loop-from.from c.loop-from.invariant.rest c.loop-from-test.true c.loop-from.invariant.chain in
    omega (arith, slice_get_within c.args.rows.now (c.loop-from.from - 1) link.row link.row_at)

pub bounds-rows-from : goal.bounds-rows-from
bounds-rows-from g c =
    let link = link_at c.args.rows.now c.args.self.now.before.items c.loop-from.from c.loop-from.invariant.rest c.loop-from-test.true c.loop-from.invariant.chain in
    slice_get_within c.args.rows.now (c.loop-from.from - 1) link.row link.row_at

pub index-requires-in-loop-from : goal.index-requires-in-loop-from
index-requires-in-loop-from g c =
    let link = link_at c.args.rows.now c.args.self.now.before.items c.loop-from.from c.loop-from.invariant.rest c.loop-from-test.true c.loop-from.invariant.chain in
    omega (arith, slice_get_within c.args.self.now.before.items (c.loop-from.from - 1) link.next link.next_at)

pub loop-from-smaller : goal.loop-from-smaller
loop-from-smaller g c =
    let rows = c.args.rows.now in
    let before = c.args.self.now.before.items in
    let rest = c.loop-from.invariant.rest in
    let link = link_at rows before c.loop-from.from rest c.loop-from-test.true c.loop-from.invariant.chain in
    let next = link_next rows before c.loop-from.from rest c.index-in-loop-from.result.now link c.index-in-loop-from.ensures in
    let low = c.requires.index.falls (c.loop-from.from - 1) link.next link.next_at in
    omega (arith, next, low, c.loop-from-test.true)
