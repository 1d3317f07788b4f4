use Rattle.std.proofs.Common.{sym, ◌∙◌, ap}
use Rattle.commit_history.proofs.AddingLemmas.{adds_moves}
use Rattle.commit_history.proofs.log.add.Goals as goal

pub compare_exchange-found-requires : goal.compare_exchange-found-requires
compare_exchange-found-requires c =
    let h = c.requires.head in
    let next = c.again-next.ensures in
    let offer = c.plain-offer.ensures in
    let pen = c.no_pen-pen.ensures in
    let book = ap (λ s. s.book) next ∙ sym (ap (λ w. w.book) h) in (
      ap (λ w. w.tracked) h,
      book,
      pen.0 ∙ book,
      offer.0,
      rw (ap (λ w. w.key) h, pen.1, offer.1, offer.3, next) (adds_moves c.args.seen.now.log c.args.commit.now.value c.args.number (sym c.requires.number.0)),
    )
