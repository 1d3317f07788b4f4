use Rattle.std.proofs.Common.{◌≡◌, [], ◌++◌, List, ℕ, map, ap, ◌∙◌}
use Rattle.otp_model.specs.Sights.{first_sights}
use Rattle.otp_model.specs.declared.tables.CalendarRow.{CalendarRow}
use Rattle.otp_model.specs.declared.tables.DateRow.{DateRow}
use Rattle.service_days.proofs.services.Services.of.Goals as goal

pub invariant_of-result : goal.invariant_of-result
unfolding first_sights
invariant_of-result c =
    let calendars : List (List ℕ) = map (λ (row : CalendarRow). row.service_id) c.args.tables.now.calendars in
    let first : c.note_services.new.names ≡ first_sights calendars =
    c.in_ok-note_services.ensures [] c.new-names.ensures ∙ ap (λ (rows : List CalendarRow). first_sights (map (λ (row : CalendarRow). row.service_id) rows)) c.as_slice.ensures in (
      c.requires,
      c.in_ok-note_services-2.ensures calendars first ∙ ap (λ (rows : List DateRow). first_sights (calendars ++ map (λ (row : DateRow). row.service_id) rows)) c.as_slice-2.ensures,
    )
