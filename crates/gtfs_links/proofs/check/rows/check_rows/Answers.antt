use Rattle.std.proofs.Common.{arith, refl, subst, Option}
use Rattle.gtfs_links.specs.Faults.{Judges}
use Rattle.gtfs_links.specs.declared.check.wrong.Wrong.{Wrong}
use Rattle.gtfs_links.proofs.FaultFacts.{ends, fine_next, goes_on, stops_at}
use Rattle.gtfs_links.proofs.check.rows.check_rows.Goals as goal

pub loop-place-init : goal.loop-place-init
loop-place-init g c = record { fine = λ k row less at. absurd (omega (arith, less)); found = refl }

pub returns-in-Some : goal.returns-in-Some
returns-in-Some g c =
    let rule = g.C.Rule.rule c.args.rule.now in
    let rows = c.args.rows.now in
    let i = c.loop-place.place in
    let inv = c.loop-place.invariant in
    stops_at c.args.file rule rows i _ c.in-Some.wrong c.at.result (omega arith) inv.fine
    (subst (λ (judged : Option Wrong). Judges rule rows i judged) c.in-Some.is c.judge.ensures) c.at.ensures inv.found

pub loop-place-preserved : goal.loop-place-preserved
loop-place-preserved g c =
    let rule = g.C.Rule.rule c.args.rule.now in
    let rows = c.args.rows.now in
    let i = c.loop-place.place in
    let inv = c.loop-place.invariant in
    let judged = subst (λ (judged : Option Wrong). Judges rule rows i judged) c.in_default.is c.judge.ensures in
    record {
      fine = fine_next c.args.file rule rows i (omega arith) inv.fine judged;
      found = goes_on c.args.file rule rows i _ (omega arith) inv.fine judged inv.found;
    }

pub returns : goal.returns
returns g c = ends c.args.file (g.C.Rule.rule c.args.rule.now) c.args.rows.now c.loop-place.place _ (omega arith) c.loop-place.invariant.found
