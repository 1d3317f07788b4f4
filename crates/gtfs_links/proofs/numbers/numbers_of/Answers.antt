use Rattle.std.proofs.Common.{arith}
use Rattle.name_index.proofs.KeyFacts.{place-within}
use Rattle.gtfs_links.proofs.numbers.numbers_of.Goals as goal

pub overflow_cast-place : goal.overflow_cast-place
overflow_cast-place g c = omega (arith, c.place_beside-place.ensures, place-within c.args.names.now c.id-id.result.now)
