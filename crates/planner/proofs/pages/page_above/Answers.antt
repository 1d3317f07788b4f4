use Rattle.std.proofs.Common.{◌↔◌, ◌<◌, IfOk, IsTrue, Option, length, subst, sym}
use Rattle.std.specs.List.{filter}
use Rattle.otp_model.specs.declared.journey.Cursor.{Cursor}
use Rattle.otp_model.specs.Whole.{is_after}
use Rattle.planner.proofs.pages.page_above.Goals as goal

pub returns-in-None-clause-more : goal.returns-in-None-clause-more
returns-in-None-clause-more c =
    subst (λ (cursor : Option Cursor). IfOk c.page.result (λ page. IsTrue page.1 ↔ (c.args.request.now.page < length (filter (λ found. is_after cursor found.value) c.args.whole.items))))
    (sym c.in-None.is) c.page.ensures.more

pub returns-in-Some-clause-more : goal.returns-in-Some-clause-more
returns-in-Some-clause-more c =
    subst (λ (cursor : Option Cursor). IfOk c.page-in-Some.result (λ page. IsTrue page.1 ↔ (c.args.request.now.page < length (filter (λ found. is_after cursor found.value) c.args.whole.items))))
    (sym c.in-Some.is) c.page-in-Some.ensures.more
