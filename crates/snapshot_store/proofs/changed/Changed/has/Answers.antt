use Rattle.std.proofs.Common.{◌≡◌, ◌<◌, ℕ, List, length, false, get_or, sym, subst, ap, ◌∙◌, arith}
use Rattle.std.proofs.lemmas.List.{get_or_default}
use Rattle.otp_model.specs.declared.change.Change.{Change}
use Rattle.snapshot_store.specs.Changing.{has_change}
use Rattle.snapshot_store.specs.Marks.{mark_of}
use Rattle.snapshot_store.proofs.MarkLemmas.{unmarked}
use Rattle.snapshot_store.proofs.changed.Changed.has.Goals as goal

pub returns-then-not-index : goal.returns-then-not-index
returns-then-not-index c =
    let within : c.mark_of.result < length c.self.inside.marks.items = omega (arith, c.self.invariant.marked.count, c.mark_of.ensures.within) in
    let unset : c.index.result.now ≡ false = c.if-not-index.true in
    let bare : get_or c.self.inside.marks.items (mark_of c.args.name.now) false ≡ false
    = ap (λ (place : ℕ). get_or c.self.inside.marks.items place false) (sym c.mark_of.ensures.place)
    ∙ sym (c.index.ensures ∙ get_or_default c.self.inside.marks.items c.mark_of.result c.index.result.now false within) ∙ unset in
    sym (subst (λ (changes : List Change). has_change changes c.args.name.now ≡ false) c.self.view_is
    (unmarked c.self.inside.changes.now c.self.inside.marks.items c.args.name.now c.self.invariant.marked bare))
