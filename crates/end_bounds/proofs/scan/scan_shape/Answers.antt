use Rattle.std.proofs.Common.{arith, ◌-◌, ◌+◌, ◌≤◌, ◌≡◌, length, subst, ℕ}
use Rattle.end_bounds.specs.Scans.{IsScanning}
use Rattle.end_bounds.proofs.ScanLemmas.{scanning_more}
use Rattle.end_bounds.proofs.scan.scan_shape.Goals as goal

pub loop-position-preserved : goal.loop-position-preserved
loop-position-preserved c =
    let position = c.loop-position.position - 1 in
    let same : c.loop-position.position ≡ position + 1 = omega (arith, c.loop-position-test.true) in
    let size = c.loop-position.invariant.size in
    let room : c.args.base + length c.args.shape.now.pattern ≤ length c.loop-position.place.items = omega (arith, c.requires.places, size) in
    scanning_more c.args.now.now c.args.shape.now c.args.base position c.hop.result c.dwell.result c.spot-spot.result c.loop-position.best c.plus-onward.result c.left_at-best.result
    c.args.ready.now.items c.loop-position.ready.items c.lower.new.ready.items c.args.place.now.items c.loop-position.place.items
    c.spot-spot.ensures c.hop.ensures c.dwell.ensures room c.plus-onward.ensures.within c.plus-onward.ensures.most
    c.left_at-best.ensures.within c.left_at-best.ensures.most c.left_at-best.ensures.alight c.lower.ensures.size c.lower.ensures.lowered c.lower.ensures.boards
    (subst (λ (k : ℕ). IsScanning c.args.now.now c.args.shape.now c.args.base k c.loop-position.best c.args.ready.now.items c.loop-position.ready.items c.args.place.now.items c.loop-position.place.items) same c.loop-position.invariant)
