use Rattle.std.proofs.Common.{◌∙◌, ap, refl, sym, option_copied}
use Rattle.pin_ring.proofs.RingLemmas.{none_at, view_at}
use Rattle.pin_ring.proofs.pins.Pins.at.Goals as goal

pub returns-in-Some : goal.returns-in-Some
returns-in-Some c =
    view_at c.self.inside.first.value.feed c.self.inside.pins c.as_slice.result.now c.self.invariant c.as_slice.ensures.value c.args.self.now c.self.view_is
    c.args.number c.in-Some.pin.now _ (sym (ap option_copied c.in-Some.is) ∙ c.find_pin.ensures) refl

pub returns-in-None : goal.returns-in-None
returns-in-None c =
    none_at c.self.inside.first.value.feed c.self.inside.pins c.as_slice.result.now c.self.invariant c.as_slice.ensures.value c.args.self.now c.self.view_is
    c.args.number (sym (ap option_copied c.in-None.is) ∙ c.find_pin.ensures)
