-- The front of enough offers is the whole list.
use Rattle.std.proofs.Common.{◌≡◌, Bool, true, false, List, get_or, refl, subst}
use Rattle.std.specs.List.{Any, Contains}
use Rattle.std.proofs.lemmas.List.Elements.{Contains-get_or}
use Rattle.otp_model.specs.declared.timetable.Run.{Run}
use Rattle.otp_model.specs.declared.timetable.Edges.{Edges}
use Rattle.otp_model.specs.declared.journey.Request.{Request}
use Rattle.otp_model.specs.declared.journey.Value.{Value}
use Rattle.otp_model.specs.declared.journey.Found.{Found}
use Rattle.otp_model.specs.Whole.{Dominates, IsBest, IsNoWorse, IsOffered, IsWhole}
use Rattle.otp_model.proofs.Values.{differ_from_eq, no_worse_both, no_worse_then, same_from_eq, value_eq}
use Rattle.pareto_front.specs.Front.{AreEnough, IsBeaten, IsFront}

module _ (runs : List Run) (edges : Edges) (r : Request) (offers list : List Found) (enough : AreEnough runs edges r offers) (front : IsFront offers list) where
  offered : (x : Found) → Contains offers x → IsOffered runs edges r x.value
  offered x on = record { legs = x.journey.legs; journey = enough.journey x on; has = enough.value x on; in_window = enough.in_window x on }

  -- a journey's value that dominates v is met by an offer that does
  beaten : (v w : Value) → IsOffered runs edges r w → Dominates w v → IsBeaten offers v
  beaten v w o d =
      let k = enough.met w o in (
        k.1,
        (k.0, k.2, k.3),
        (no_worse_then k.1.value w v k.4 d.0, λ same. d.1 (no_worse_both w v d.0 (subst (λ (u : Value). IsNoWorse u w) same k.4))),
      )

  -- the value of an offer that meets one of the best is that one
  met_is : (v : Value) → IsBest runs edges r v → (x : Found) → Contains offers x → IsNoWorse x.value v → (b : Bool) → value_eq x.value v ≡ b → x.value ≡ v
  met_is v best x on h true e = same_from_eq x.value v e
  met_is v best x on h false e = absurd (best.undominated x.value (offered x on) (h, differ_from_eq x.value v e))

  pub whole_from_front : IsWhole runs edges r list
  whole_from_front = record {
    rises = front.rises;
    journeys = λ k d m. let x = get_or list k d in let on = front.from x (Contains-get_or list k d m) in (enough.journey x on, enough.value x on);
    best = λ k d m. let x = get_or list k d in let c = Contains-get_or list k d m in
        record { offered = offered x (front.from x c); undominated = λ w o dominates. front.unbeaten x c (beaten x.value w o dominates) };
    all = λ v best. let k = enough.met v best.offered in
        let x = k.1 in
        let on : Contains offers x = (k.0, k.2, k.3) in
        let same = met_is v best x on k.4 (value_eq x.value v) refl in
        let free : IsBeaten offers x.value → ⊥ = λ y. best.undominated y.0.value (offered y.0 y.1) (subst (Dominates y.0.value) same y.2) in
        subst (λ (w : Value). Any (λ found. found.value ≡ w) list) same (front.all x on free);
  }
