-- Pages that lead on to one another, each by the cursor behind the one before.
use Rattle.std.specs.Prelude.{◌≡◌, ℕ, ◌≤◌, List, [], ◌∷◌, map, Option, Some, None, true, false}
use Rattle.std.specs.List.{flat_map}
use Rattle.otp_model.specs.declared.timetable.Run.{Run}
use Rattle.otp_model.specs.declared.timetable.Edges.{Edges}
use Rattle.otp_model.specs.declared.journey.Request.{Request}
use Rattle.otp_model.specs.declared.journey.Cursor.{Cursor}
use Rattle.otp_model.specs.declared.journey.Value.{Value}
use Rattle.otp_model.specs.declared.journey.Found.{Found}
use Rattle.otp_model.specs.Whole.{IsWhole, IsPage}

-- the values of a list, in order
abbrev pub values_of : List Found → List Value
values_of list = map (λ found. found.value) list

-- the same request, from a cursor on
abbrev pub from_cursor : Request → Option Cursor → Request
from_cursor r cursor = record r { cursor = cursor }

-- the cursor behind a page: this commit number, and the last value on the page
abbrev pub cursor_behind : ℕ → List Found → Option Cursor
cursor_behind commit [] = None
cursor_behind commit (found ∷ []) = Some (record { commit = commit; value = found.value })
cursor_behind commit (found ∷ other ∷ list) = cursor_behind commit (other ∷ list)

-- The pages of a request from a cursor on: more follow behind each of them but the last, and each begins
-- at the cursor behind the one before it.
abbrev pub ArePages : List Run → Edges → Request → ℕ → Option Cursor → List (List Found) → Type 0
ArePages runs edges r commit cursor [] = ⊥
ArePages runs edges r commit cursor (page ∷ []) = IsPage runs edges (from_cursor r cursor) page false
ArePages runs edges r commit cursor (page ∷ next ∷ pages) =
    IsPage runs edges (from_cursor r cursor) page true × ArePages runs edges r commit (cursor_behind commit page) (next ∷ pages)

-- two whole lists of a request have the same values, whatever its cursor is
abbrev pub HasOneList : Type 0
HasOneList =
    (runs : List Run) (edges : Edges) (r : Request) (cursor : Option Cursor) (one other : List Found) → IsWhole runs edges r one
    → IsWhole runs edges (from_cursor r cursor) other → values_of one ≡ values_of other

-- the values on the pages of a request, from none on to the last, are those of its whole list, in order
abbrev pub PagesJoin : Type 0
PagesJoin =
    (runs : List Run) (edges : Edges) (r : Request) (commit : ℕ) (whole : List Found) (pages : List (List Found)) → 1 ≤ r.page
    → IsWhole runs edges r whole → ArePages runs edges r commit None pages → flat_map values_of pages ≡ values_of whole

-- and there are such pages: who follows the cursors comes to an end
abbrev pub HasPages : Type 0
HasPages =
    (runs : List Run) (edges : Edges) (r : Request) (commit : ℕ) (whole : List Found) → 1 ≤ r.page → IsWhole runs edges r whole
    → (pages : List (List Found)) × ArePages runs edges r commit None pages
