-- The reply to a plan request (its form is this project's own), as JSON with the keys in the order of their bytes.
use Rattle.std.specs.Prelude.{ℕ, nat_lt, List, map, Bool, false, not, ◌==◌, Option, None, Some, codes}
use Rattle.std.specs.List.{All}
use Rattle.otp_model.specs.declared.journey.Cursor.{Cursor}
use Rattle.otp_model.specs.declared.journey.Found.{Found}
use Rattle.otp_model.specs.declared.journey.Page.{Page}
use Rattle.otp_model.specs.declared.timetable.Feed.{Feed}
use Rattle.otp_model.specs.Laws.{cursor_behind}
use Rattle.paging.specs.Text.{FitsText, cursor_text_of}
use Rattle.serde_json.specs.Data.{Data, null, boolean, number, string, array, object, unsigned, member, no_members}
use Rattle.serde_json.specs.View.{items_of}
use Rattle.plan_json.specs.Journeys.{IsLegOf, journey_data}
use Rattle.plan_json.specs.Replies.{number_or_null}

-- the text of a cursor, or null where there is none
abbrev pub cursor_data : Option Cursor → Data
cursor_data None = null
cursor_data (Some cursor) = string (cursor_text_of cursor)

-- the cursor behind the page
abbrev pub next_data : ℕ → List Found → Data
next_data commit found = cursor_data (cursor_behind commit found)

-- the request's cursor names another number of commits than the reply
abbrev pub is_moved : Option Cursor → ℕ → Bool
is_moved None commit = false
is_moved (Some cursor) commit = not (cursor.commit == commit)

abbrev pub journeys_data : Feed → List Found → Data
journeys_data feed found = array (items_of (map (journey_data feed) found))

abbrev pub plan_object : Bool → ℕ → Data → Data → Bool → Bool → Data → Data
plan_object behind commit direct journeys more moved next =
    object (member (codes "behind") (boolean behind)
    (member (codes "commit") (number (unsigned commit))
    (member (codes "direct") direct
    (member (codes "journeys") journeys
    (member (codes "more") (boolean more)
    (member (codes "moved") (boolean moved)
    (member (codes "next") next no_members)))))))

abbrev pub page_data : Feed → ℕ → Option Cursor → ℕ → Page → Data
page_data feed commit cursor at_least page =
    plan_object (nat_lt commit at_least) commit (number_or_null page.direct) (journeys_data feed page.found) page.more (is_moved cursor commit) (next_data commit page.found)

-- a journey whose rides name the feed's, and whose value and number of commits fit the text of a cursor
pub record IsFoundOf (feed : Feed) (commit : ℕ) (found : Found) : Type 0 where
  pub legs : All (IsLegOf feed) found.journey.legs
  pub fits : FitsText (record { commit = commit; value = found.value })
