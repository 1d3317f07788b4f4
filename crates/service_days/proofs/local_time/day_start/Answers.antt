use Rattle.std.proofs.Common.{◌≡◌, ℤ, pos, ◌-ℤ◌, Ok, ap, subst, ◌∙◌, w32, w64, to_z, of_z}
use Rattle.std.proofs.lemmas.Int.{to_z-of_z}
use Rattle.std.proofs.lemmas.Result.{IfOk-at_ok}
use Rattle.jiff.specs.ZoneView.{plain_zone}
use Rattle.jiff_core.specs.declared.Offset.{Offset}
use Rattle.jiff_core.specs.declared.civil.datetime.DateTime.{DateTime}
use Rattle.jiff_tz.specs.Ambiguous.{compatible_offset}
use Rattle.jiff_tz.specs.Zone.{ambiguous_at}
use Rattle.service_days.specs.LocalTime.{IsNoon, noon_at}
use Rattle.service_days.proofs.TimeFacts.{half_day_before, instant-noon, is_instant, near_day, noon_again, offsets-noon, second-noon}
use Rattle.service_days.proofs.local_time.day_start.Goals as goal

pub unwrap-noon-requires : goal.unwrap-noon-requires
unwrap-noon-requires c =
    let noon : DateTime = c.noon_of.result in
    let is : IsNoon c.args.day noon = subst (λ (d : ℤ). IsNoon d noon) (to_z-of_z w32 c.args.day c.ranges.day) c.noon_of.ensures in
    let offset : Offset = compatible_offset (ambiguous_at (plain_zone c.args.zone.now.rule) noon) in
    let chosen = rw (c.to_ambiguous_timestamp-noon.ensures.datetime, c.to_ambiguous_timestamp-noon.ensures.offsets) at c.disambiguate.ensures in
    chosen.succeeds.1 (rw (instant-noon offset c.args.day c.noon_of.result is) (is_instant offset c.args.day c.requires))

module _ (c : goal.After-floor_second) where
  abbrev offset : Offset
  offset = compatible_offset (ambiguous_at (plain_zone c.args.zone.now.rule) c.noon_of.result)

  is : IsNoon c.args.day c.noon_of.result
  is = subst (λ (d : ℤ). IsNoon d c.noon_of.result) (to_z-of_z w32 c.args.day c.ranges.day) c.noon_of.ensures

  -- the answer, as the code computes it
  start : to_z w64 (of_z w64 (to_z w64 (of_z w64 c.floor_second.result) -ℤ pos 43200)) ≡ (noon_at c.args.day -ℤ offset.seconds) -ℤ pos 43200
  start =
      let chosen = rw (c.to_ambiguous_timestamp-noon.ensures.datetime, c.to_ambiguous_timestamp-noon.ensures.offsets) at c.disambiguate.ensures in
      let at = IfOk-at_ok _ c.unwrap-noon.ensures chosen.value in
      let second = second-noon offset c.args.day c.noon_of.result c.to_plain.result.nanosecond c.floor_second.result is (ap (λ t. t.nanosecond) c.to_plain.ensures ∙ at) c.floor_second.ensures in
      half_day_before offset c.args.day c.floor_second.result c.requires second

pub returns-clause-start : goal.returns-clause-start
returns-clause-start c =
    ap (λ (s : ℤ). Ok s) (start c ∙ ap (λ offsets. (noon_at c.args.day -ℤ (compatible_offset offsets).seconds) -ℤ pos 43200) (offsets-noon (plain_zone c.args.zone.now.rule) c.args.day c.noon_of.result (is c)))

pub returns-clause-noon : goal.returns-clause-noon
returns-clause-noon c = record {
  noon = c.noon_of.result;
  is_noon = is c;
  instant = noon_again (offset c) c.args.day _ c.noon_of.result (is c) (start c);
}

pub returns-clause-near : goal.returns-clause-near
returns-clause-near c = near_day (offset c) c.args.day _ (start c)
