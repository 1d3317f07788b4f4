use Rattle.std.proofs.Common.{◌^◌}
use Rattle.std.proofs.lemmas.List.{nil_from_length}
use Rattle.pb_wire.specs.Cutting.{varint_at}
use Rattle.pb_wire.proofs.VarintLoop.{varint_starts, varint_goes_on, varint_ends, varint_is_cut, varint_is_long}
use Rattle.pb_wire.proofs.reading.varint.Goals as goal

pub loop-init : goal.loop-init
loop-init c = varint_starts c.args.at c.args.bytes.now

pub returns-in_default : goal.returns-in_default
returns-in_default c =
    varint_is_cut (2 ^ 64) c.loop.number c.loop.place c.loop.counter c.args.at (varint_at c.args.at c.args.bytes.now) c.loop-test.true (rw (nil_from_length c.loop.rest.now c.in_default.ensures.cases) at c.loop.invariant)

pub returns-then-byte-lt128 : goal.returns-then-byte-lt128
returns-then-byte-lt128 c =
    rw c.from.ensures (varint_ends (2 ^ 64) c.loop.number c.loop.place c.in-Some.byte.now c.loop.counter c.args.at c.in-Some.after.now (varint_at c.args.at c.args.bytes.now) c.loop-test.true c.if-byte-lt128.true (rw c.in-Some.ensures.cases.0 at c.loop.invariant))

pub loop-preserved : goal.loop-preserved
loop-preserved c =
    rw c.from-in-loop.ensures (varint_goes_on (2 ^ 64) c.loop.number c.loop.place c.in-Some.byte.now c.loop.counter c.args.at c.in-Some.after.now (varint_at c.args.at c.args.bytes.now) c.loop-test.true c.if-byte-lt128.false (rw c.in-Some.ensures.cases.0 at c.loop.invariant))

pub returns : goal.returns
returns c = varint_is_long (2 ^ 64) c.loop.number c.loop.place c.loop.counter c.args.at c.loop.rest.now (varint_at c.args.at c.args.bytes.now) c.loop-test.false c.loop.invariant
