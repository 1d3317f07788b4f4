use Rattle.std.proofs.Common.{arith}
use Rattle.pb_wire.proofs.VarintLaws.{varint_shorter}
use Rattle.pb_wire.proofs.reading.field.Goals as goal

pub overflow_sub-here : goal.overflow_sub-here
overflow_sub-here c = varint_shorter _ _ _ _ c.in_ok-key.ensures

pub value-requires : goal.value-requires
value-requires c = let short = varint_shorter _ _ _ _ c.in_ok-key.ensures in omega arith
