-- The lines of the program and its exit statuses. Their form is this project's own; the files are those of the
-- GTFS Schedule reference, "Dataset Files".
use Rattle.std.specs.Prelude.{ℕ, ◌==◌, List, [], ◌∷◌, ◌++◌, Option, Some, None, codes, decimal, if◌then◌else◌}
use Rattle.query_form.specs.declared.fault.TargetFault.{TargetFault}
use Rattle.query_form.specs.declared.fault.TargetFault.TheVariants as target
use Rattle.otp_model.specs.FeedFaults.{file_name}
use Rattle.otp_model.specs.declared.feed_fault.FeedFault.{FeedFault}
use Rattle.otp_model.specs.declared.feed_fault.FeedFault.TheVariants as feed
use Rattle.otp_model.specs.declared.feed_fault.FeedFile.TheVariants as file
use Rattle.reply_bodies.specs.Names.{cause_name, fault_name, fault_offset}
use Rattle.otp_server.specs.declared.refusal.Refusal.{Refusal}
use Rattle.otp_server.specs.declared.refusal.Refusal.TheVariants as refusal
use Rattle.otp_server.specs.declared.refusal.Untaken.{Untaken}
use Rattle.otp_server.specs.declared.refusal.Untaken.TheVariants as untaken
use Rattle.otp_server.specs.declared.status.Status.{Status}
use Rattle.otp_server.specs.declared.status.Status.TheVariants as status

-- the exit status of the program
abbrev pub number_of : Status → ℕ
number_of status.Done = 0
number_of status.Words = 2
number_of status.Feed = 3
number_of status.Read = 4
number_of status.Write = 5
number_of status.Memory = 6
number_of status.Message = 7
number_of status.Request = 8

abbrev pub status_of : Refusal → Status
status_of refusal.Words = status.Words
status_of (refusal.Feed (feed.At cause file row column)) = status.Feed
status_of (refusal.Feed feed.Read) = status.Read
status_of (refusal.Feed feed.Memory) = status.Memory
status_of (refusal.Request (target.Query cause parameter)) = status.Request
status_of (refusal.Request target.Path) = status.Request
status_of (refusal.Request target.FeedNumber) = status.Request
status_of (refusal.Request target.Method) = status.Request
status_of (refusal.Request target.Memory) = status.Memory
status_of (refusal.Message place why) = status.Message
status_of refusal.Read = status.Read
status_of refusal.Memory = status.Memory

-- the names of a feed's files, by their numbers
abbrev pub name_of_file : ℕ → List ℕ
name_of_file n =
    if n == 1 then file_name file.Agency
    else (if n == 2 then file_name file.Stops
    else (if n == 3 then file_name file.Routes
    else (if n == 4 then file_name file.Trips
    else (if n == 5 then file_name file.StopTimes
    else (if n == 6 then file_name file.Calendar
    else (if n == 7 then file_name file.CalendarDates
    else (if n == 8 then file_name file.Transfers
    else (if n == 9 then file_name file.Frequencies else []))))))))

-- a column's name, and a dash where none is meant
abbrev pub or_dash : List ℕ → List ℕ
or_dash [] = codes "-"
or_dash (b ∷ bs) = b ∷ bs

-- `feed CAUSE FILE ROW COLUMN`
abbrev pub feed_line : ℕ → List ℕ → ℕ → List ℕ → List ℕ
feed_line cause file row column =
    codes "feed " ++ (decimal cause ++ (codes " " ++ (file ++ (codes " " ++ (decimal row ++ (codes " " ++ (column ++ codes "\n")))))))

-- `request NAME PARAMETER`
abbrev pub request_line : List ℕ → List ℕ → List ℕ
request_line cause parameter = codes "request " ++ (cause ++ (codes " " ++ (parameter ++ codes "\n")))

abbrev pub feed_refusal : FeedFault → List ℕ
feed_refusal (feed.At cause file row column) = feed_line cause (name_of_file file) row (or_dash column)
feed_refusal feed.Read = codes "read\n"
feed_refusal feed.Memory = []

-- a query alone has no path, no number of an RT feed and no method
abbrev pub request_refusal : TargetFault → List ℕ
request_refusal target.Path = []
request_refusal target.FeedNumber = []
request_refusal target.Method = []
request_refusal (target.Query cause parameter) = request_line (cause_name cause) parameter
request_refusal target.Memory = []

abbrev pub untaken_name : Untaken → List ℕ
untaken_name untaken.Missing = codes "missing"
untaken_name untaken.Large = codes "large"
untaken_name (untaken.Older have) = codes "older"
untaken_name (untaken.Unread fault) = fault_name fault

-- the kept timestamp, or the offset of a fault
abbrev pub untaken_number : Untaken → Option ℕ
untaken_number untaken.Missing = None
untaken_number untaken.Large = None
untaken_number (untaken.Older have) = Some have
untaken_number (untaken.Unread fault) = fault_offset fault

abbrev pub number_or_dash : Option ℕ → List ℕ
number_or_dash None = codes "-"
number_or_dash (Some number) = decimal number

abbrev pub untaken_detail : Untaken → List ℕ
untaken_detail why = number_or_dash (untaken_number why)

-- `message I NAME DETAIL`
abbrev pub message_line : ℕ → List ℕ → List ℕ → List ℕ
message_line place name detail = codes "message " ++ (decimal place ++ (codes " " ++ (name ++ (codes " " ++ (detail ++ codes "\n")))))

-- the line of a refusal; for want of memory nothing is written
abbrev pub line_of : Refusal → List ℕ
line_of refusal.Words = codes "words\n"
line_of (refusal.Feed fault) = feed_refusal fault
line_of (refusal.Request fault) = request_refusal fault
line_of (refusal.Message place why) = message_line place (untaken_name why) (untaken_detail why)
line_of refusal.Read = codes "read\n"
line_of refusal.Memory = []

-- `stops=S trips=T runs=R calls=C passed=P`
abbrev pub counts_line : (stops trips runs calls passed : ℕ) → List ℕ
counts_line stops trips runs calls passed =
    codes "stops=" ++ (decimal stops ++ (codes " trips=" ++ (decimal trips ++ (codes " runs=" ++ (decimal runs ++ (codes " calls=" ++ (decimal calls ++ (codes " passed=" ++ (decimal passed ++ codes "\n")))))))))
