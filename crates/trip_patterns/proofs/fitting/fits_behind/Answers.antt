use Rattle.std.proofs.Common.{◌≡◌, List, sym, subst, map}
use Rattle.otp_model.specs.Patterns.{pattern_of, spot_of}
use Rattle.otp_model.specs.declared.timetable.Call.{Call}
use Rattle.trip_patterns.specs.Rows.{IsLastBefore}
use Rattle.trip_patterns.proofs.LaneLemmas.{fits_if}
use Rattle.trip_patterns.proofs.fitting.fits_behind.Goals as goal

pub returns : goal.returns
returns c =
    let run = c.args.run.now in
    let rows = c.args.rows.now in
    let calls = c.as_slice-calls.ensures in
    let same = c.is_same_day.ensures.0 c.if-not-is_same_day.false in
    let of : pattern_of run ≡ c.args.pattern.now
    = subst (λ (cs : List Call). map spot_of cs ≡ c.args.pattern.now) calls (c.has_pattern.ensures.0 c.if-not-has_pattern.false) in
    let fits = fits_if c.args.day.now c.args.pattern.now rows run c.requires same of in (
      (λ before. fits.0 (subst (λ (cs : List Call). IsLastBefore rows cs) calls (c.is_last_before.ensures.0 before))),
      (λ is. c.is_last_before.ensures.1 (subst (λ (cs : List Call). IsLastBefore rows cs) (sym calls) (fits.1 is))),
    )
