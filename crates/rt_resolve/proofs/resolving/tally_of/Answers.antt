use Rattle.std.proofs.Common.{◌≡◌, ◌<◌, ◌≤◌, ℕ, List, Result, length, get_or, subst, arith}
use Rattle.otp_model.specs.Resolution.{judged, judged_from}
use Rattle.otp_model.specs.declared.change.Change.{Change}
use Rattle.otp_model.specs.declared.message.Entity.{Entity}
use Rattle.rt_resolve.specs.Tallies.{Tallies}
use Rattle.rt_resolve.proofs.JudgedLemmas.{answers_to, judged_more, judged_whole, tally_small}
use Rattle.rt_resolve.proofs.resolving.tally_of.Goals as goal

pub loop-entity-init : goal.loop-entity-init
unfolding judged_from
loop-entity-init c = c.new-tally.ensures

pub take-requires : goal.take-requires
take-requires c = λ place.
    let entities = c.args.message.now.entities in
    let i = c.loop-entity.entity-index in
    let less = subst (λ (items : List Entity). i < length items) c.as_slice-entity-items.ensures c.loop-entity-test.true in
    let small = tally_small c.args.lookup.now c.args.message.now.timestamp entities i c.loop-entity.tally place (omega (arith, less)) c.loop-entity.invariant in
    omega (arith, small)

pub loop-entity-preserved : goal.loop-entity-preserved
loop-entity-preserved c =
    let feed = c.args.lookup.now in
    let timestamp = c.args.message.now.timestamp in
    let entities = c.args.message.now.entities in
    let i = c.loop-entity.entity-index in
    let items = c.as_slice-entity-items.ensures in
    let less = subst (λ (es : List Entity). i < length es) items c.loop-entity-test.true in
    let is = subst (λ (es : List Entity). c.entity-item.result ≡ get_or es i c.entity-item.result) items c.entity-item.is in
    subst (λ (answers : List (Result Change ℕ)). Tallies answers c.take.new.self) (judged_more feed timestamp entities i c.entity-item.result less is)
    (c.in_ok-take.ensures (answers_to feed timestamp i entities) (judged feed timestamp c.entity-item.result) c.loop-entity.invariant c.judge-answer.ensures)

pub returns : goal.returns
returns c =
    let over = subst (λ (es : List Entity). length es ≤ c.loop-entity.entity-index) c.as_slice-entity-items.ensures c.loop-entity-test.false in
    subst (λ (answers : List (Result Change ℕ)). Tallies answers c.loop-entity.tally)
    (judged_whole c.args.lookup.now c.args.message.now.timestamp c.args.message.now.entities c.loop-entity.entity-index over) c.loop-entity.invariant
