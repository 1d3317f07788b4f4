use Rattle.std.proofs.Common.{◌≡◌, ◌∙◌, ◌+◌, ◌/◌, ◌%◌, suc, sym, ap}
use Rattle.std.proofs.lemmas.Result.{IfOk-weaker}
use Rattle.feed_gen.specs.Draws.{draw, start_of, state_after}
use Rattle.feed_gen.specs.Messages.{late}
use Rattle.feed_gen.proofs.StepLemmas.{canceled_after, canceled_is, draw_is, late_after, late_is, state_more}
use Rattle.feed_gen.proofs.entities.update.Goals as goal

pub returns-then-draw-eq0-clause-bytes : goal.returns-then-draw-eq0-clause-bytes
returns-then-draw-eq0-clause-bytes c =
    let seed = c.args.seed in
    let part = c.args.part in
    let start = start_of seed part in
    IfOk-weaker c.canceled.result _ _
    (λ bytes h place begin.
    let state = state_more start (suc place) _ _ begin c.draw.ensures.state in
    let none = sym (draw_is seed part (suc place) _ _ 10 state c.draw.ensures.value) ∙ c.if-draw-eq0.true in
    h ∙ sym (canceled_is seed part place c.args.trip none))
    c.canceled.ensures

pub returns-then-draw-eq0-clause-state : goal.returns-then-draw-eq0-clause-state
returns-then-draw-eq0-clause-state c = λ place begin.
    let seed = c.args.seed in
    let part = c.args.part in
    let start = start_of seed part in
    let state = state_more start (suc place) _ _ begin c.draw.ensures.state in
    let none = sym (draw_is seed part (suc place) _ _ 10 state c.draw.ensures.value) ∙ c.if-draw-eq0.true in
    state ∙ ap (state_after start) (sym (canceled_after seed part place none))

pub returns-clause-bytes : goal.returns-clause-bytes
returns-clause-bytes c =
    let seed = c.args.seed in
    let part = c.args.part in
    let start = start_of seed part in
    IfOk-weaker c.late.result _ _
    (λ bytes h place begin.
    let first = state_more start (suc place) _ _ begin c.draw.ensures.state in
    let some : draw seed part (suc place) 10 ≡ 0 → ⊥ = λ e. c.if-draw-eq0.false (draw_is seed part (suc place) _ _ 10 first c.draw.ensures.value ∙ e) in
    let second = state_more start (suc (suc place)) _ _ first c.draw-sequence.ensures.state in
    let third = state_more start (suc (suc (suc place))) _ _ second c.draw-seconds.ensures.state in
    let sequence = draw_is seed part (suc (suc place)) _ _ 12 second c.draw-sequence.ensures.value in
    let seconds = draw_is seed part (suc (suc (suc place))) _ _ 900 third c.draw-seconds.ensures.value in
    h ∙ (λ i. late (c.args.trip / 100) (c.args.trip % 100) (1 + sequence i) (seconds i)) ∙ sym (late_is seed part place c.args.trip some))
    c.late.ensures

pub returns-clause-state : goal.returns-clause-state
returns-clause-state c = λ place begin.
    let seed = c.args.seed in
    let part = c.args.part in
    let start = start_of seed part in
    let first = state_more start (suc place) _ _ begin c.draw.ensures.state in
    let some : draw seed part (suc place) 10 ≡ 0 → ⊥ = λ e. c.if-draw-eq0.false (draw_is seed part (suc place) _ _ 10 first c.draw.ensures.value ∙ e) in
    let second = state_more start (suc (suc place)) _ _ first c.draw-sequence.ensures.state in
    let third = state_more start (suc (suc (suc place))) _ _ second c.draw-seconds.ensures.state in
    third ∙ ap (state_after start) (sym (late_after seed part place some))
