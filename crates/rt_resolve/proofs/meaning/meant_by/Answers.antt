use Rattle.std.proofs.Common.{◌≡◌, ◌+◌, ◌++◌, List, Some, None, map, drop, sym, ap, ◌∙◌, arith}
use Rattle.std.specs.List.{position_from}
use Rattle.std.proofs.lemmas.List.Elements.{All-push}
use Rattle.otp_model.specs.Moves.{Meant, meant_from, means}
use Rattle.rt_resolve.specs.Meaning.{MeansWithEvents, meant_of}
use Rattle.rt_resolve.proofs.MeaningLemmas.{events_at, none_left, none_meant, one_meant, put_meant}
use Rattle.rt_resolve.proofs.meaning.meant_by.Goals as goal

pub loop-update-preserved-in_default : goal.loop-update-preserved-in_default
loop-update-preserved-in_default c =
    let stops = c.args.stops.now in
    let calls = c.args.calls.now in
    let i = c.loop-update.update-index in
    let none : position_from (means stops c.update-item.result) c.loop-update.from (drop c.loop-update.from calls) ≡ None
    = sym c.place_meant.ensures.place ∙ c.in_default.is in
    let step = none_meant stops calls c.loop-update.from i c.args.updates.now c.update-item.result (omega arith) c.update-item.is none in
    record {
      so_far = ap (λ (rest : List Meant). map meant_of c.loop-update.meant.items ++ rest) (sym step) ∙ c.loop-update.invariant.so_far;
      within = c.loop-update.invariant.within;
      events = c.loop-update.invariant.events;
    }

pub loop-update-preserved : goal.loop-update-preserved
loop-update-preserved c =
    let stops = c.args.stops.now in
    let calls = c.args.calls.now in
    let updates = c.args.updates.now in
    let i = c.loop-update.update-index in
    let before = c.loop-update.meant.items in
    let some : position_from (means stops c.update-item.result) c.loop-update.from (drop c.loop-update.from calls) ≡ Some c.in-Some.place
    = sym c.place_meant.ensures.place ∙ c.in-Some.is in
    let step = one_meant stops calls c.loop-update.from i updates c.update-item.result c.in-Some.place (omega arith) c.update-item.is some in
    let has = events_at updates i c.update-item.result c.requires (omega arith) c.update-item.is in
    record {
      so_far =
          put_meant before c.push.new.self.items _ (meant_from stops calls (c.in-Some.place + 1) (drop (i + 1) updates)) c.in_ok-push.ensures.items
          ∙ ap (λ (rest : List Meant). map meant_of before ++ rest) (sym step)
          ∙ c.loop-update.invariant.so_far;
      within = omega (arith, c.in-Some.ensures.within);
      events = rw c.in_ok-push.ensures.items (All-push MeansWithEvents before _ c.loop-update.invariant.events has);
    }

pub returns-clause-same : goal.returns-clause-same
returns-clause-same c =
    sym (none_left c.args.stops.now c.args.calls.now c.loop-update.from c.loop-update.update-index c.args.updates.now _ c.loop-update-test.false) ∙ c.loop-update.invariant.so_far
