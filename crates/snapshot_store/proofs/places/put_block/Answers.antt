use Rattle.std.proofs.Common.{[], ◌<◌, get_or, length, refl, arith}
use Rattle.std.proofs.lemmas.Option.{slice_get_read}
use Rattle.snapshot_store.proofs.PlaceLemmas.{put_more}
use Rattle.snapshot_store.proofs.places.put_block.Goals as goal

pub loop-position-preserved : goal.loop-position-preserved
loop-position-preserved c =
    let pattern = c.args.pattern.now in
    let n = c.loop-position.position in
    let less : n < length pattern = omega arith in λ stop.
    put_more stop c.args.block pattern n c.stop.result c.index-pattern-position.result (get_or c.args.places.now.items stop []) (get_or c.loop-position.places.items stop [])
    (get_or c.put_place.new.places.items stop []) (slice_get_read pattern (length pattern) n c.index-pattern-position.result refl less c.index-pattern-position.is) c.stop.ensures
    (c.loop-position.invariant stop) (c.in_ok-put_place.ensures stop)
