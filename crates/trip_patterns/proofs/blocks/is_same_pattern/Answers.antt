use Rattle.std.proofs.Common.{◌≡◌, ◌∙◌, true, false, sym, arith}
use Rattle.trip_patterns.proofs.BlockLemmas.{same_spots}
use Rattle.trip_patterns.proofs.RowLemmas.{under_never}
use Rattle.trip_patterns.proofs.blocks.is_same_pattern.Goals as goal

pub returns-then-not-is_of : goal.returns-then-not-is_of
returns-then-not-is_of c = (
  (λ never. absurd (let e : false ≡ true = never in cc)),
  (λ same. absurd (under_never c.is_of.result _ c.is_of.ensures c.if-not-is_of.true
      (same_spots c.args.calls.now c.args.others.now c.loop-position.position (omega arith) (omega arith) same ∙ sym c.of.ensures))),
)
