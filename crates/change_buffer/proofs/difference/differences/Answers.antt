use Rattle.std.proofs.Common.{rules, Global, List, sym, ap, ◌∙◌}
use Rattle.std.proofs.lemmas.List.{map-id}
use Rattle.std.proofs.lemmas.Iterator.Adapters.{YieldsList-from_vec}
use Rattle.std.proofs.lemmas.Iterator.Consumers.{YieldsList-end}
use Rattle.otp_model.specs.declared.run_name.RunName.{RunName}
use Rattle.change_buffer.specs.Forms.{calls_before, calls_now, difference, differences}
use Rattle.change_buffer.proofs.StepLemmas.{flat_push}
use Rattle.change_buffer.proofs.difference.differences.Goals as goal

pub loop-name-preserved : goal.loop-name-preserved
loop-name-preserved c =
    flat_push (λ (name : RunName). difference name (calls_before c.args.feed.now c.args.feeds.now name) (calls_now c.args.feed.now c.args.feeds.now name)) c.loop-name.changes c.push_some.new.self
    c.loop-name.yielded c.in-Some.name _ c.loop-name.invariant c.in_ok-difference_of.ensures c.in_ok-push_some.ensures.ok

pub returns : goal.returns
returns c =
    let i = c.into_iter-name-iterator.ensures.into_iter_gives in
    let road = YieldsList-from_vec {Z = Global} {s = c.into_iter-name-iterator.result} c.args.names.items i.0 (search rules) in
    let end = YieldsList-end road c.loop-name.yielded _ c.loop-name.yielded_by c.next.result c.next.new.self c.in-None.is c.next.ensures.steps in
    c.loop-name.invariant ∙ ap (λ (names : List RunName). differences c.args.feed.now c.args.feeds.now names) (sym (map-id c.loop-name.yielded) ∙ end.0)
