use Rattle.std.proofs.Common.{subst, ◌∙◌, ℕ}
use Rattle.otp_model.specs.declared.journey.Leg.TheVariants.{Walk}
use Rattle.raptor_rounds.specs.Labels.{IsChain}
use Rattle.raptor_rounds.proofs.JourneyLemmas.{found_of, legs_whole}
use Rattle.raptor_rounds.proofs.journey.journey_of.Goals as goal

pub returns-clause-legs : goal.returns-clause-legs
returns-clause-legs g c = λ hops chain.
    c.from_vec.ensures ∙ legs_whole _ _ _ hops (Walk c.args.egress) c.new-legs.ensures.items (c.in_ok-push_label.ensures hops (rw c.deref.ensures.value chain)) c.in_ok-push.ensures.items

pub returns-clause-found : goal.returns-clause-found
returns-clause-found g c = λ edges r f points is on label egress.
    let t = c.args.timetable.now in
    let blocks = g.T.Timetable.blocks t in
    let arena = c.args.state.now.arena.items in
    found_of (g.T.Timetable.runs t) blocks edges r c.args.state.now points is f c.from_vec.result on (λ hops chain.
    rw egress (c.from_vec.ensures ∙ legs_whole _ _ _ hops (Walk c.args.egress) c.new-legs.ensures.items
    (c.in_ok-push_label.ensures hops (rw c.deref.ensures.value (subst (λ (i : ℕ). IsChain blocks arena i hops) label chain))) c.in_ok-push.ensures.items))
