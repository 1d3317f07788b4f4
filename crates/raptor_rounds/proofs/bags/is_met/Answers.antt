use Rattle.std.proofs.Common.{length, refl}
use Rattle.std.proofs.lemmas.Option.{slice_get_read}
use Rattle.raptor_rounds.proofs.bags.is_met.Goals as goal

pub returns-in-Some : goal.returns-in-Some
returns-in-Some c = λ met.
    let look = c.in-Some.ensures.lookup in
    record {
      at = c.in-Some.at.now;
      at_is = slice_get_read c.args.bags.now (length c.args.bags.now) c.args.node.now.stop c.in-Some.at.now refl look.3.0 look.1;
      covered = rw c.deref.ensures.value at (c.is_covered.ensures met);
    }
