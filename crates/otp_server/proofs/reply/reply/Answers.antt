use Rattle.std.proofs.Common.{◌≡◌, ◌++◌, ℕ, ap, subst, sym, rules, codes, ◌∙◌}
use Rattle.std.proofs.lemmas.List.Sorted.{IsPermutation-sym}
use Rattle.otp_model.proofs.PermutedLemmas.{page_permuted}
use Rattle.otp_model.specs.Schedule.{sched}
use Rattle.plan_json.specs.Body.{body_text}
use Rattle.plan_json.specs.declared.body.Body.TheVariants.{Plan}
use Rattle.snapshot_store.specs.Snapshots.{runs_of}
use Rattle.otp_server.proofs.reply.reply.Goals as goal

pub returns : goal.returns
returns c = λ history same counted.
    let r = c.args.request.now in
    let plan = c.in_ok-body.ensures.plan in
    let page = plan.page in
    let text : c.push.new.self ≡ body_text c.args.feed.now c.in_ok-body.body ++ codes "\n" = search rules in
    let told : c.push.new.self ≡ body_text c.args.feed.now (Plan c.args.number r.cursor r.at_least page) ++ codes "\n" = text ∙ ap (λ body. body_text c.args.feed.now body ++ codes "\n") plan.body_is in
    record {
      page = page;
      page_is = page_permuted c.args.edges.now r (runs_of c.args.snapshot.now) (sched c.args.feed.now history) (IsPermutation-sym _ _ same) page.found page.more plan.page_is;
      direct_is = plan.direct_is;
      text_is = subst (λ (n : ℕ). c.push.new.self ≡ body_text c.args.feed.now (Plan n r.cursor r.at_least page) ++ codes "\n") (sym counted) told;
    }
