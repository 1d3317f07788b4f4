use Rattle.std.proofs.Common.{take, pos, sym, arith}
use Rattle.std.proofs.lemmas.Int.{ints}
use Rattle.std.proofs.lemmas.List.{take_all}
use Rattle.std.proofs.lemmas.List.Elements.{All-more, All-same}
use Rattle.lane_kernels.specs.Columns.{IsCoordinate}
use Rattle.lane_kernels.proofs.tests.are_coordinates.Goals as goal

pub loop-place-preserved : goal.loop-place-preserved
loop-place-preserved c = All-more IsCoordinate c.args.column.now c.loop-place.place (pos 0) (omega arith) c.loop-place.invariant (omega (arith, ints), omega (arith, ints))

pub returns : goal.returns
returns c = λ yes. All-same IsCoordinate c.args.column.now (take c.loop-place.place c.args.column.now) (sym (take_all c.loop-place.place c.args.column.now (omega arith))) c.loop-place.invariant
