-- The entries of a page.
use Rattle.std.proofs.Common.{◌≡◌, List, subst, sym, take}
use Rattle.std.specs.List.{All}
use Rattle.std.proofs.lemmas.List.Elements.{All-filter, All-take}
use Rattle.otp_model.specs.declared.journey.Found.{Found}
use Rattle.otp_model.specs.declared.journey.Request.{Request}
use Rattle.otp_model.specs.declared.timetable.Edges.{Edges}
use Rattle.otp_model.specs.declared.timetable.Run.{Run}
use Rattle.otp_model.specs.Whole.{IsWhole, is_after, left_of}
use Rattle.planner.specs.Entries.{IsEntry}

-- each entry of a whole list
pub whole_entries : (runs : List Run) (edges : Edges) (r : Request) (whole : List Found)
    → IsWhole runs edges r whole → All (IsEntry runs edges r) whole
whole_entries runs edges r whole is = λ k d h. record {
  journey = (is.journeys k d h).0;
  has = (is.journeys k d h).1;
  in_window = (is.best k d h).offered.in_window;
}

-- and each of a page
pub left_entries : (runs : List Run) (edges : Edges) (r : Request) (whole found : List Found)
    → IsWhole runs edges r whole → found ≡ take r.page (left_of r whole) → All (IsEntry runs edges r) found
left_entries runs edges r whole found is found_is =
    subst (All (IsEntry runs edges r)) (sym found_is)
    (All-take (IsEntry runs edges r) r.page (left_of r whole)
    (All-filter (λ entry. is_after r.cursor entry.value) (IsEntry runs edges r) whole (whole_entries runs edges r whole is)))
