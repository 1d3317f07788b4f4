use Rattle.std.proofs.Common.{arith, rules, length, refl}
use Rattle.std.proofs.lemmas.Option.{slice_get_read}
use Rattle.raptor_rounds.proofs.FrontLemmas.{fronts_put}
use Rattle.raptor_rounds.proofs.fronts.note_final.Goals as goal

pub loop-rides-preserved : goal.loop-rides-preserved
loop-rides-preserved c = λ finals on are.
    let old = c.loop-rides.fronts.items in
    let at = slice_get_read old (length old) c.loop-rides.rides c.index_mut-front.result.now refl (search rules) c.index_mut-front.ensures.value in
    fronts_put finals c.args.found.now old c.loop-rides.rides c.index_mut-front.result.now c.add.new.self on (omega arith) at (rw c.step_of-step.ensures at c.in_ok-add.ensures) (c.loop-rides.invariant finals on are)
