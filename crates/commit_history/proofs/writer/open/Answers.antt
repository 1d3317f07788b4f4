use Rattle.std.proofs.Common.{rules, arith, ◌≡◌, ◌++◌, ◌∷◌, [], length, sym, ◌∙◌, ap, subst, length-append}
use Rattle.std.specs.Prelude.{All}
use Rattle.std.proofs.lemmas.List.Elements.{All-push, All-same}
use Rattle.commit_history.specs.Views.{PassView, WriterView, fresh_pass}
use Rattle.commit_history.proofs.writer.open.Goals as goal

pub loop-count-preserved : goal.loop-count-preserved
loop-count-preserved g c =
    let inv = c.loop-count.invariant in
    let before : WriterView = c.loop-count.writer in
    let same : c.pass.new.self ≡ before = c.pass.ensures.same in
    let pass : c.in-Some.pass ≡ fresh_pass before = c.in-Some.ensures.pass in
    let items : c.push.new.self.items ≡ c.loop-count.passes.items ++ c.in-Some.pass ∷ [] = search rules in
    let IsFresh : WriterView → PassView → Type 0 = λ writer pass. pass ≡ fresh_pass writer in
    let all : All (IsFresh before) c.push.new.self.items = All-same (IsFresh before) _ _ items (All-push (IsFresh before) c.loop-count.passes.items c.in-Some.pass inv.3 pass) in (
      ap (λ writer. writer.feed) same ∙ inv.0,
      ap (λ writer. writer.history) same ∙ inv.1,
      ap length items ∙ omega (arith, length-append c.loop-count.passes.items (c.in-Some.pass ∷ []), inv.2),
      subst (λ (writer : WriterView). All (IsFresh writer) c.push.new.self.items) (sym same) all,
    )
