use Rattle.std.proofs.Common.{◌∙◌, pos, ◌*ℤ◌, ◌*◌, ◌^◌, w64, lit<, lit≤, FitsSigned}
use Rattle.std.proofs.lemmas.Int.{to_z-of_z}
use Rattle.otp_model.proofs.Lengths.{fits, natural_within, scaled_within, thousandth_within, wider}
use Rattle.otp_model.proofs.timetable.millimetres.Goals as goal

pub overflow_mul-degrees : goal.overflow_mul-degrees
overflow_mul-degrees c =
    let small : FitsSigned w64 (pos c.args.scale) = fits 111195 (pos c.args.scale) (lit< tt) (natural_within 111195 c.args.scale c.requires.scale) in
    rw (to_z-of_z w64 c.args.degrees c.ranges.degrees, c.from.ensures, to_z-of_z w64 (pos c.args.scale) small)
    (fits (180000000 * 111195) (c.args.degrees *ℤ pos c.args.scale) (lit< tt) (scaled_within 180000000 111195 c.args.degrees c.args.scale c.requires.degrees c.requires.scale))

pub returns-clause-length : goal.returns-clause-length
returns-clause-length c =
    let small : FitsSigned w64 (pos c.args.scale) = fits 111195 (pos c.args.scale) (lit< tt) (natural_within 111195 c.args.scale c.requires.scale) in
    let product = scaled_within 180000000 111195 c.args.degrees c.args.scale c.requires.degrees c.requires.scale in
    to_z-of_z w64 c.div_euclid.result (record { sfits = c.div_euclid.type_inv })
    ∙ (rw (
      to_z-of_z w64 c.args.degrees c.ranges.degrees,
      c.from.ensures,
      to_z-of_z w64 (pos c.args.scale) small,
      to_z-of_z w64 (c.args.degrees *ℤ pos c.args.scale) (fits (180000000 * 111195) (c.args.degrees *ℤ pos c.args.scale) (lit< tt) product),
    ) at c.div_euclid.ensures)

pub returns-clause-within : goal.returns-clause-within
returns-clause-within c =
    let product = scaled_within 180000000 111195 c.args.degrees c.args.scale c.requires.degrees c.requires.scale in
    rw (returns-clause-length c) (thousandth_within (2 ^ 40) (c.args.degrees *ℤ pos c.args.scale)
    (wider (180000000 * 111195) (1000 * 2 ^ 40) (c.args.degrees *ℤ pos c.args.scale) (lit≤ tt) product))
