use Rattle.std.proofs.Common.{arith}
use Rattle.std.proofs.lemmas.List.Elements.{Contains-get_or}
use Rattle.raptor_rounds.proofs.fronts.note_finals.Goals as goal

pub loop-number-preserved : goal.loop-number-preserved
loop-number-preserved c = λ are.
    c.in_ok-note_final.ensures c.args.finals.now (Contains-get_or c.args.finals.now c.loop-number.number _ (omega arith)) (c.loop-number.invariant are)
