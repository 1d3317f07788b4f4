use Rattle.std.proofs.Common.{◌≡◌, ◌^◌, w32, w64, to_z, of_z, lit<}
use Rattle.std.proofs.lemmas.Int.{to_z-of_z}
use Rattle.otp_model.specs.Rows.{IsWithin}
use Rattle.otp_model.proofs.Lengths.{fits}
use Rattle.service_days.specs.LocalTime.{start_of}
use Rattle.feed_load.proofs.RunFacts.{start_within}
use Rattle.feed_load.proofs.service_day.day_of.Goals as goal

day_is : (c : goal.In_ok-services) → to_z w32 (of_z w32 c.args.day) ≡ c.args.day
day_is c = to_z-of_z w32 c.args.day c.ranges.day

within : (c : goal.In_ok-services) → IsWithin (2 ^ 35) c.in_ok-start.start
within c =
    let near = rw (day_is c) at c.in_ok-start.ensures.near in
    start_within c.args.day c.in_ok-start.start c.requires (record { low = near.0; high = near.1 })

start_is : (c : goal.In_ok-services) → to_z w64 (of_z w64 c.in_ok-start.start) ≡ c.in_ok-start.start
start_is c = to_z-of_z w64 c.in_ok-start.start (fits (2 ^ 35) c.in_ok-start.start (lit< tt) (within c))

pub returns-clause-made : goal.returns-clause-made
returns-clause-made c =
    let same : c.in_ok-start.start ≡ start_of c.args.zone.now c.args.day =
    let h = rw (day_is c) at c.in_ok-start.ensures.start in cc h in
    rw (day_is c, start_is c, same, rw (day_is c) at c.in_ok-services.ensures.whole)

pub returns-clause-sound : goal.returns-clause-sound
returns-clause-sound c = rw (day_is c, start_is c) (record {
  of_years = c.requires;
  starts = within c;
  rises = c.in_ok-services.ensures.rises;
})
