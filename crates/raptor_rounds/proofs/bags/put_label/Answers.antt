use Rattle.std.proofs.Common.{◌++◌, ◌∷◌, [], length, refl}
use Rattle.std.proofs.lemmas.Option.{slice_get_read}
use Rattle.raptor_rounds.proofs.ArenaLemmas.{bags_kept, covered_put, each_set}
use Rattle.raptor_rounds.specs.States.{AreBagsAt}
use Rattle.raptor_rounds.proofs.bags.put_label.Goals as goal

pub returns-clause-bags : goal.returns-clause-bags
returns-clause-bags c = λ arena last bags.
    let n = c.args.node.now in
    let made = c.make_stops.new.bags.items in
    let old = c.index_mut.result.now in
    let were = c.in_ok-make_stops.ensures.same arena bags in
    let was = slice_get_read made (length made) n.stop old refl c.in_ok-make_stops.ensures.room c.index_mut.ensures.value in
    each_set (AreBagsAt (arena ++ n ∷ [])) made n.stop (record { bags = c.put_at_stop.new.bags }) (bags_kept arena n made were)
    (c.in_ok-put_at_stop.ensures.bags arena last (were n.stop old was))

pub returns-clause-covered : goal.returns-clause-covered
returns-clause-covered c = λ arena each.
    let n = c.args.node.now in
    let made = c.make_stops.new.bags.items in
    let old = c.index_mut.result.now in
    let was = slice_get_read made (length made) n.stop old refl c.in_ok-make_stops.ensures.room c.index_mut.ensures.value in
    covered_put arena n c.args.bags.now.items made old (record { bags = c.put_at_stop.new.bags }) c.in_ok-make_stops.ensures.still c.in_ok-make_stops.ensures.room was
    c.in_ok-put_at_stop.ensures.still c.in_ok-put_at_stop.ensures.covered each
