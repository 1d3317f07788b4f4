use Rattle.trip_patterns.proofs.FirstFitLemmas.{unfit_more}
use Rattle.trip_patterns.proofs.RowLemmas.{under_never}
use Rattle.trip_patterns.proofs.first_fit.place_of.Goals as goal

pub loop-place-preserved : goal.loop-place-preserved
loop-place-preserved c =
    unfit_more c.args.run.now c.args.lanes.now c.loop-place.place c.index-lanes-place.result c.loop-place.invariant c.index-lanes-place.is
    (under_never c.fits.result _ c.fits.ensures c.if-fits.false)
