-- What the text of a cursor that a reply told leads on to.
use Rattle.std.specs.Prelude.{◌≡◌, ℕ, List, ◌++◌, Some, None, Ok, codes}
use Rattle.otp_model.specs.declared.journey.Cursor.{Cursor}
use Rattle.otp_model.specs.declared.journey.Request.{Request}
use Rattle.otp_model.specs.declared.timetable.Stop.{Stop}
use Rattle.otp_model.specs.Laws.{from_cursor}
use Rattle.paging.specs.Text.{FitsText, cursor_text_of}
use Rattle.query_form.specs.Query.{query_of}

-- a query with one parameter more: the text of a cursor
abbrev pub with_cursor : List ℕ → Cursor → List ℕ
with_cursor query cursor = query ++ (codes "&cursor=" ++ cursor_text_of cursor)

-- Where a query asks for a request without a cursor, the query with a cursor's text added asks for the same
-- request from that cursor on.
abbrev pub NextLeadsOn : Type 0
NextLeadsOn =
    (query : List ℕ) (stops : List Stop) (scale : ℕ) (r : Request) (cursor : Cursor) → query_of query stops scale ≡ Ok r → r.cursor ≡ None
    → FitsText cursor → query_of (with_cursor query cursor) stops scale ≡ Ok (from_cursor r (Some cursor))
