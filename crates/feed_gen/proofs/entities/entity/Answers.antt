use Rattle.std.proofs.Common.{◌≡◌, ◌∙◌, ◌+◌, suc, ap, arith}
use Rattle.std.proofs.lemmas.Result.{IfOk-weaker}
use Rattle.feed_gen.specs.Draws.{start_of}
use Rattle.feed_gen.specs.Messages.{entity_of, update_at}
use Rattle.feed_gen.proofs.StepLemmas.{draw_is, state_more}
use Rattle.feed_gen.proofs.entities.entity.Goals as goal

pub returns-in_err-update-clause-state : goal.returns-in_err-update-clause-state
returns-in_err-update-clause-state c = λ place begin. c.in_err-update.ensures.state place (state_more (start_of c.args.seed c.args.part) place _ _ begin c.draw-trip.ensures.state)

pub returns-clause-bytes : goal.returns-clause-bytes
returns-clause-bytes c =
    let seed = c.args.seed in
    let part = c.args.part in
    IfOk-weaker c.entity_of.result _ _
    (λ bytes h place begin.
    let state = state_more (start_of seed part) place _ _ begin c.draw-trip.ensures.state in
    let trip = draw_is seed part place _ _ 6000 state c.draw-trip.ensures.value in
    let id : c.args.entity + 1 ≡ suc c.args.entity = omega arith in
    let update = c.deref.ensures.value ∙ c.in_ok-update.ensures.bytes place state ∙ ap (update_at seed part place) trip in
    h ∙ (λ i. entity_of (id i) (update i)))
    c.entity_of.ensures

pub returns-clause-state : goal.returns-clause-state
returns-clause-state c = λ place begin. c.in_ok-update.ensures.state place (state_more (start_of c.args.seed c.args.part) place _ _ begin c.draw-trip.ensures.state)
