use Rattle.trip_patterns.proofs.ShapeLemmas.{shape_fits}
use Rattle.trip_patterns.proofs.shape.fits_its_shape.Goals as goal

pub returns : goal.returns
returns c = shape_fits
