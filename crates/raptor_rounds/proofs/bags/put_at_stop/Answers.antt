use Rattle.std.proofs.Common.{◌-◌, length, refl}
use Rattle.std.proofs.lemmas.Option.{slice_get_read}
use Rattle.raptor_rounds.proofs.ArenaLemmas.{bag_put, bags_in_kept, covered_in_put, each_set, still_in_put}
use Rattle.raptor_rounds.specs.States.{IsBagAt}
use Rattle.std.proofs.Common.{◌++◌, ◌∷◌, []}
use Rattle.raptor_rounds.proofs.bags.put_at_stop.Goals as goal

pub returns-clause-bags : goal.returns-clause-bags
returns-clause-bags c = λ arena last bags.
    let n = c.args.node.now in
    let made = c.make_bags.new.bags.items in
    let old = c.index_mut.result.now in
    let at = n.rides - 1 in
    let were = c.in_ok-make_bags.ensures.same arena n.stop bags in
    let was = slice_get_read made (length made) at old refl c.in_ok-make_bags.ensures.room c.index_mut.ensures.value in
    each_set (IsBagAt (arena ++ n ∷ []) n.stop) made at c.insert.new.self (bags_in_kept arena n n.stop made were)
    (bag_put arena n c.args.number c.label_of-label.result old c.insert.new.self last c.requires.some c.label_of-label.ensures (were at old was) c.in_ok-insert.ensures.upheld)

pub returns-clause-still : goal.returns-clause-still
returns-clause-still c = λ place time penalty h.
    let made = c.make_bags.new.bags.items in
    let old = c.index_mut.result.now in
    let at = c.args.node.now.rides - 1 in
    let was = slice_get_read made (length made) at old refl c.in_ok-make_bags.ensures.room c.index_mut.ensures.value in
    still_in_put made at c.label_of-label.result old c.insert.new.self was c.in_ok-insert.ensures.upheld place time penalty (c.in_ok-make_bags.ensures.still place time penalty h)

pub returns-clause-covered : goal.returns-clause-covered
returns-clause-covered c =
    covered_in_put c.make_bags.new.bags.items (c.args.node.now.rides - 1) c.args.number c.args.node.now c.label_of-label.result c.index_mut.result.now c.insert.new.self c.in_ok-make_bags.ensures.room
    c.label_of-label.ensures c.in_ok-insert.ensures.upheld
