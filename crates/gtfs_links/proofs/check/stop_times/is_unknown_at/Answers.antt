use Rattle.std.proofs.Common.{◌≡◌, length, false, nat_eq, refl}
use Rattle.std.proofs.lemmas.Bool.{false_from_ne_true, eqb-true}
use Rattle.gtfs_links.proofs.KeyFacts.{has_place}
use Rattle.gtfs_links.proofs.check.stop_times.is_unknown_at.Goals as goal

pub returns-then-as_str-ne0 : goal.returns-then-as_str-ne0
returns-then-as_str-ne0 c =
    let filled = rw c.as_str.ensures at c.if-as_str-ne0.true in
    let has = rw (c.requires, has_place c.args.names.now c.args.id.now) at c.has_number.ensures in
    let empty : nat_eq (length c.args.id.now) 0 ≡ false = false_from_ne_true (nat_eq (length c.args.id.now) 0) (λ t. filled (eqb-true (length c.args.id.now) 0 t)) in
    rw (empty, has) refl
