use Rattle.std.proofs.Common.{◌≡◌, inl, inr, length, refl, rules, subst, sym}
use Rattle.raptor_rounds.specs.Closure.{Entry}
use Rattle.raptor_rounds.specs.States.{IsEntryOf, IsItself, IsStateSettled}
use Rattle.raptor_rounds.proofs.SettleLemmas.{met_by_bag, settles_push, settles_was}
use Rattle.raptor_rounds.proofs.offer.offer.Goals as goal

pub returns-then-is_lost_label : goal.returns-then-is_lost_label
returns-then-is_lost_label c =
    let n = c.args.node.now in
    let s = c.args.state.now in
    let r = c.args.request.now in
    settles_was r n.departure (IsEntryOf n) (IsItself n) s c.requires.open (λ e same. subst (λ (x : Entry). IsStateSettled r s x) same (inr (c.is_lost_label.ensures c.if-is_lost_label.true)))

pub returns-then-is_met : goal.returns-then-is_met
returns-then-is_met c =
    let n = c.args.node.now in
    let s = c.args.state.now in
    let r = c.args.request.now in
    let met = met_by_bag r s n c.requires.open (rw c.deref.ensures.value at (c.is_met.ensures c.if-is_met.true)) in
    settles_was r n.departure (IsEntryOf n) (IsItself n) s c.requires.open (λ e same. subst (λ (x : Entry). IsStateSettled r s x) same (inl met))

pub returns : goal.returns
returns c =
    let old = c.args.state.now in
    let number : c.len-number.result ≡ length old.arena.items = search rules in
    settles_push c.args.request.now c.args.node.now old _ c.requires.node c.requires.open (record {
      aim_is = refl;
      departures_are = refl;
      arena_is = c.in_ok-push.ensures.items;
      bags_are = c.in_ok-put_label.ensures.bags old.arena.items (sym number) c.requires.open.open_is.bags_are;
      covered = c.in_ok-put_label.ensures.covered old.arena.items c.requires.open.open_is.covered;
      fronts_are = rw c.deref-3.ensures.value at c.in_ok-note_finals.ensures;
      finals_are = rw (c.deref-2.ensures.value, number) at c.in_ok-push_finals.ensures;
    })
