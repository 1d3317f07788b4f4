use Rattle.std.proofs.Common.{◌≡◌, ◌-◌, ◌<◌, ℕ, length, max, ap, sym, ◌∙◌, arith}
use Rattle.std.proofs.lemmas.List.{get_or_default}
use Rattle.std.proofs.lemmas.Option.{slice_get_within}
use Rattle.gtfs_links.specs.declared.feed.HeadwayRow.{HeadwayRow}
use Rattle.feed_load.proofs.JoinLemmas.{last_joined}
use Rattle.feed_load.proofs.joins.join_row.Goals as goal

pub returns-clause-starts : goal.returns-clause-starts
returns-clause-starts c = λ time.
    let rows = c.args.joined.now.items in
    let n : ℕ = c.len-last.result - 1 in
    let m = c.index_mut.result.now in
    let on = rw c.deref.ensures.value at (c.goes_on_last.ensures c.if-not-goes_on_last.false) in
    let at : n ≡ length rows - 1 = omega (arith, c.len-last.ensures) in
    let within : n < length rows = omega (arith, at, slice_get_within rows (length rows - 1) on.last on.stands) in
    let same : c.index.result.now ≡ m = c.index.ensures ∙ (get_or_default rows n c.index.result.now m within ∙ sym c.index_mut.ensures.value) in
    last_joined rows c.args.row m c.max.result n time on c.requires at c.index_mut.ensures.value (c.max.ensures ∙ ap (λ (r : HeadwayRow). max r.end c.args.row.end) same)
