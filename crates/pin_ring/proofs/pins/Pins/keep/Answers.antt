use Rattle.std.proofs.Common.{◌∙◌, ap, sym, option_copied, true, false}
use Rattle.pin_ring.proofs.RingLemmas.{copied_there, keeps_more, keeps_there}
use Rattle.pin_ring.proofs.pins.Pins.keep.Goals as goal

pub returns-then-is_some : goal.returns-then-is_some
returns-then-is_some c =
    keeps_there c.self.inside.first.value.feed c.self.inside.pins c.as_slice.result.now c.self.invariant c.as_slice.ensures.value c.args.self.now c.self.view_is
    c.args.pass.now.known c.args.view (option_copied c.find_pin.result) c.requires.taken c.find_pin.ensures
    (copied_there c.find_pin.result true (sym c.is_some.ensures ∙ c.if-is_some.true))

pub invariant_of-self : goal.invariant_of-self
invariant_of-self c =
    (keeps_more c.self.inside.first.value.feed c.self.inside.pins c.as_slice.result.now c.self.invariant c.as_slice.ensures.value
    (record { view = c.args.view; pass = c.of.result }) c.make_room.new.pins.items c.push_reserved.new.self c.make_room.ensures.items c.push_reserved.ensures.items
    c.args.self.now c.self.view_is c.args.pass.now.known (option_copied c.find_pin.result) (ap (λ p. p.known) c.of.ensures) c.requires.taken c.find_pin.ensures
    (copied_there c.find_pin.result false (sym c.is_some.ensures ∙ c.if-is_some.false))
    (c.push_reserved.ensures.capacity ∙ c.make_room.ensures.capacity ∙ c.self.invariant.room)).0

pub returns : goal.returns
returns c =
    (keeps_more c.self.inside.first.value.feed c.self.inside.pins c.as_slice.result.now c.self.invariant c.as_slice.ensures.value
    (record { view = c.args.view; pass = c.of.result }) c.make_room.new.pins.items c.push_reserved.new.self c.make_room.ensures.items c.push_reserved.ensures.items
    c.args.self.now c.self.view_is c.args.pass.now.known (option_copied c.find_pin.result) (ap (λ p. p.known) c.of.ensures) c.requires.taken c.find_pin.ensures
    (copied_there c.find_pin.result false (sym c.is_some.ensures ∙ c.if-is_some.false))
    (c.push_reserved.ensures.capacity ∙ c.make_room.ensures.capacity ∙ c.self.invariant.room)).1
