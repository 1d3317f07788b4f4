use Rattle.std.proofs.Common.{◌+◌, ◌*◌, ◌^◌, ℤ, ◌+ℤ◌, ap, sym, subst, ◌∙◌}
use Rattle.otp_model.specs.Limits.{clock_end}
use Rattle.otp_model.specs.Rows.{IsWithin}
use Rattle.feed_load.proofs.RunFacts.{instant_from, instant_within}
use Rattle.feed_load.proofs.runs.instant_of.Goals as goal

pub returns : goal.returns
returns c =
    let start = c.args.day.now.start in
    let made = c.shift_of.ensures in
    let sum = instant_from start c.shift_of.result c.requires.day.starts made.within in
    record {
      instant = sum ∙ ap (λ (z : ℤ). start +ℤ z) made.shift;
      within = subst (λ (z : ℤ). IsWithin (2 ^ 35 + 2 * clock_end) z) (sym sum) (instant_within start c.shift_of.result c.requires.day.starts made.within);
    }
