-- What is met is in the bags.
use Rattle.std.proofs.Common.{◌≡◌, inl, inr, ℕ, ◌≤◌, ℤ, pos, ◌≤ℤ◌, List, sym, subst, arith}
use Rattle.std.proofs.lemmas.Int.{ints}
use Rattle.otp_model.specs.declared.journey.Request.{Request}
use Rattle.label_bags.specs.declared.label.Label.{Label}
use Rattle.label_bags.specs.Bags.{IsCovered}
use Rattle.raptor_rounds.specs.declared.state.RoundState.{RoundState}
use Rattle.raptor_rounds.specs.Closure.{Entry, IsMet}
use Rattle.raptor_rounds.specs.Labels.{InArena, InFinals}
use Rattle.raptor_rounds.specs.Laws.{BagsCover, IsInBags}
use Rattle.raptor_rounds.specs.States.{IsOpen, Saw, bounds_of, labels_of}
use Rattle.raptor_rounds.proofs.BlockLemmas.{run_bounds}
use Rattle.raptor_rounds.proofs.ClosureLemmas.{settled}
use Rattle.raptor_rounds.proofs.LostLemmas.{trans_ℤ}

at_most : (p q : ℕ) (l : ℤ) → l ≤ℤ pos p → p ≤ q → l ≤ℤ pos q
at_most p q l a b = omega (arith, ints, a, b)

covered_later : (labels : List Label) (t u : ℤ) (p q : ℕ) → t ≤ℤ u → p ≤ q → IsCovered labels t (pos p) → IsCovered labels u (pos q)
covered_later labels t u p q early cheap c =
    let l = c.1 in
    (c.0, l, c.2, c.3, (trans_ℤ l.time t u c.4.0 early, at_most p q l.penalty c.4.1 cheap))

in_bags : (r : Request) (s : RoundState) (e : Entry) → IsOpen r s → IsMet (InArena s.arena.items) e → IsInBags s e
in_bags r s e open_is m =
    let on = m.1 in
    let n = on.1 in
    let x = m.2 in
    let by = subst (λ (y : Entry). y.stop ≡ e.stop) (sym on.3) x.same in
    let few = subst (λ (y : Entry). y.rides ≤ e.rides) (sym on.3) x.few in
    let early = subst (λ (y : Entry). y.time ≤ℤ e.time) (sym on.3) x.early in
    let cheap = subst (λ (y : Entry). y.penalty ≤ e.penalty) (sym on.3) x.cheap in
    record {
      rides = n.rides;
      some = (open_is.in_range on.0 n on.2).some;
      few = few;
      covered = subst (λ (stop : ℕ). IsCovered (labels_of s stop n.rides) e.time (pos e.penalty)) by (covered_later (labels_of s n.stop n.rides) n.time e.time n.penalty e.penalty early cheap (open_is.covered on.0 n on.2));
    }

pub bags_cover : BagsCover
bags_cover runs blocks edges r s stands can is h hops begins at few =
    elim (settled runs edges r (bounds_of s) (InArena s.arena.items) (InFinals s.finals.items) (run_bounds blocks runs stands edges r (bounds_of s) can.timely is.bounds) (Saw s) is.closed h hops begins at few) [
      | inl met ↦ inl (in_bags r s _ is.open_is met)
      | inr lost ↦ inr lost
    ]
