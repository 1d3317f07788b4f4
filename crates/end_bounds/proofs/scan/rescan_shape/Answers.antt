use Rattle.end_bounds.proofs.ScanLemmas.{unchanged_scanned}
use Rattle.end_bounds.proofs.scan.rescan_shape.Goals as goal

pub returns-then-is_unchanged-clause-scanned : goal.returns-then-is_unchanged-clause-scanned
returns-then-is_unchanged-clause-scanned c = unchanged_scanned c.args.before.now c.args.now.now c.args.shape.now c.args.base c.args.ready.now.items c.args.place.now.items (c.is_unchanged.ensures c.if-is_unchanged.true) c.requires.scanned
