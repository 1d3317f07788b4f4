use Rattle.std.proofs.Common.{List, [], ◌∷◌, ◌++◌, ◌∙◌, ap, map, subst, sym}
use Rattle.std.specs.Arc.{arc_value}
use Rattle.std.specs.List.{All}
use Rattle.std.proofs.lemmas.List.{map_push}
use Rattle.trip_patterns.specs.Lanes.{IsLane, LaneOf}
use Rattle.snapshot_store.specs.Changing.{is_opened}
use Rattle.snapshot_store.proofs.RenewLemmas.{shared_block}
use Rattle.snapshot_store.proofs.renewing.renew_block.Goals as goal

pub returns-then-not-is_opened-clause-added : goal.returns-then-not-is_opened-clause-added
returns-then-not-is_opened-clause-added g c =
    shared_block c.args.changes.now c.args.own.now (arc_value c.args.block.now) (map arc_value c.args.made.now.items) (map arc_value c.push.new.self.items) c.requires
    (ap (is_opened c.args.changes.now c.args.own.now) (sym (c.as_slice-lanes.ensures ∙ c.deref.ensures)) ∙ sym c.is_opened.ensures ∙ c.if-not-is_opened.true)
    (ap (map arc_value) c.in_ok-push.ensures.items ∙ map_push arc_value c.args.made.now.items c.in_ok-try_clone.field-0
    ∙ ap (λ (lanes : List LaneOf). map arc_value c.args.made.now.items ++ lanes ∷ []) c.in_ok-try_clone.ensures)

pub put_kept-requires : goal.put_kept-requires
put_kept-requires g c = subst (λ (lanes : List LaneOf). All IsLane lanes) (sym (c.as_slice-lanes.ensures ∙ c.deref.ensures)) c.requires.lanes_are
