use Rattle.std.proofs.Common.{◌≡◌, ◌-◌, ◌^◌}
use Rattle.pb_wire.specs.Cutting.{varint_in, varint_at}
use Rattle.pb_wire.proofs.VarintLoop.{more}
use Rattle.pb_wire.proofs.reading.varint.Given as goal

abbrev pub invariant-loop : goal.invariant-loop
invariant-loop l = more (2 ^ 64) l.number l.place (varint_in (10 - l.counter) l.at l.rest) ≡ varint_at l.at l.bytes
