use Rattle.std.proofs.Common.{[], map}
use Rattle.otp_model.specs.Sights.{first_sights}
use Rattle.otp_model.specs.declared.tables.CalendarRow.{CalendarRow}
use Rattle.gtfs_links.proofs.indexes.Indexes.of.Goals as goal

pub returns : goal.returns
unfolding first_sights
returns c =
    let calendars = rw c.as_slice-4.ensures at (c.in_ok-note_ids-4.ensures [] c.new-services.ensures) in
    record {
      stops = rw c.as_slice.ensures at (c.in_ok-note_ids.ensures [] c.new-stops.ensures);
      routes = rw c.as_slice-2.ensures at (c.in_ok-note_ids-2.ensures [] c.new-routes.ensures);
      trips = rw c.as_slice-3.ensures at (c.in_ok-note_ids-3.ensures [] c.new-trips.ensures);
      services = rw c.as_slice-5.ensures at (c.in_ok-note_ids-5.ensures (map (λ (row : CalendarRow). row.service_id) c.args.tables.now.calendars) calendars);
    }
