use Rattle.std.proofs.Common.{arith}
use Rattle.pb_wire.proofs.VarintLaws.{varint_shorter}
use Rattle.pb_wire.proofs.reading.part.Goals as goal

pub overflow_sub-from : goal.overflow_sub-from
overflow_sub-from c = varint_shorter _ _ _ _ c.in_ok-len.ensures

pub overflow_add-to : goal.overflow_add-to
overflow_add-to c = let short = varint_shorter _ _ _ _ c.in_ok-len.ensures in omega arith
