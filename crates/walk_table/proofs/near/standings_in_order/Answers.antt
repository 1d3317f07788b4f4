use Rattle.std.proofs.Common.{◌≡◌, to_z, of_z, w64, subst, sym, arith, refl, Some}
use Rattle.std.specs.List.{slice_get}
use Rattle.std.proofs.lemmas.List.{length_push}
use Rattle.std.proofs.lemmas.Option.{slice_get_read}
use Rattle.otp_base.proofs.EachAtLemmas.{each_push}
use Rattle.walk_table.specs.Near.{IsStandingAt, standing_of}
use Rattle.walk_table.proofs.near.standings_in_order.Goals as goal

pub loop-number-preserved : goal.loop-number-preserved
loop-number-preserved c =
    let stops = c.args.stops.now in
    let number = c.loop-number.number in
    let stop = c.index-stops-number.result in
    let at : slice_get stops number ≡ Some stop = slice_get_read stops _ number stop refl (omega arith) c.index-stops-number.is in
    let line = to_z w64 (of_z w64 c.args.south) in
    let is : c.standing_of.result ≡ standing_of line number stop = λ i. record { north = c.standing_of.ensures.north i; number = c.standing_of.ensures.number i } in
    let here : IsStandingAt line stops number c.standing_of.result = (stop, at, is) in
    rw c.in_ok-push.ensures.items (record {
      count = omega (arith, length_push c.loop-number.standings.items c.standing_of.result);
      each = each_push (IsStandingAt line stops) c.loop-number.standings.items c.standing_of.result c.loop-number.invariant.each
          (subst (λ (k : _). IsStandingAt line stops k c.standing_of.result) (sym c.loop-number.invariant.count) here);
    })
