-- What a query is answered over a feed and its edges.
use Rattle.std.specs.Prelude.{◌≡◌, ℕ, ◌≤◌, List, [], ◌++◌, length, Option, Ok, codes}
use Rattle.command_words.specs.Messages.{AskedMessage}
use Rattle.otp_base.specs.declared.folder.FileEntry.{FileEntry}
use Rattle.otp_model.specs.declared.journey.Page.{Page}
use Rattle.otp_model.specs.declared.message.Commit.{Commit}
use Rattle.otp_model.specs.declared.journey.Request.{Request}
use Rattle.otp_model.specs.declared.timetable.Edges.{Edges}
use Rattle.otp_model.specs.declared.timetable.Feed.{Feed}
use Rattle.otp_model.specs.Limits.{most_scale}
use Rattle.otp_model.specs.Ranges.{CanWalk}
use Rattle.otp_model.specs.Schedule.{sched}
use Rattle.otp_model.specs.Sound.{IsSound}
use Rattle.otp_model.specs.Whole.{IsPage}
use Rattle.plan_json.specs.Body.{body_text}
use Rattle.plan_json.specs.declared.body.Body.TheVariants.{Plan}
use Rattle.query_form.specs.Query.{IsRefused as IsRefusedAs, query_of}
use Rattle.query_form.specs.declared.fault.TargetFault.{TargetFault}
use Rattle.walk_table.specs.Direct.{IsDirect}
use Rattle.otp_server.specs.Messages.{BringAll, IsStopped, Told, history_of}
use Rattle.otp_server.specs.declared.refusal.Refusal.{Refusal}
use Rattle.otp_server.specs.declared.refusal.Untaken.{Untaken}
use Rattle.otp_server.specs.declared.refusal.Refusal.TheVariants as refusal

-- the body of a reply after so many commits, and a line feed
abbrev pub reply_text : Feed → ℕ → Request → Page → List ℕ
reply_text feed number r page = body_text feed (Plan number r.cursor r.at_least page) ++ codes "\n"

-- the reply to a request: a page of its best journeys over the schedule after a history, and its direct walk
pub record IsReply (feed : Feed) (edges : Edges) (history : List Commit) (r : Request) (text : List ℕ) : Type 0 where
  pub page : Page
  pub page_is : IsPage (sched feed history) edges r page.found page.more
  pub direct_is : IsDirect edges r.from r.to page.direct
  pub text_is : text ≡ reply_text feed (length history) r page

-- the reply to a request once the messages that words bring were committed, each by itself
pub record IsAnswered (files : Option (List FileEntry)) (feed : Feed) (edges : Edges) (messages : List AskedMessage) (r : Request) (text : List ℕ) : Type 0 where
  pub told : List Told
  pub brought : BringAll files [] messages told
  pub reply : IsReply feed edges (history_of told) r text

-- the reply to what a query asks for
pub record IsPlanned (files : Option (List FileEntry)) (feed : Feed) (edges : Edges) (messages : List AskedMessage) (query text : List ℕ) : Type 0 where
  pub request : Request
  pub request_is : query_of query feed.stops edges.profile.scale ≡ Ok request
  pub answered : IsAnswered files feed edges messages request text

-- the query's first fault, or want of memory
abbrev pub IsQueryFault : Feed → Edges → List ℕ → TargetFault → Type 0
IsQueryFault feed edges query why = IsRefusedAs (query_of query feed.stops edges.profile.scale) why

-- the query has no fault, and this message is refused
pub record IsHeldUp (files : Option (List FileEntry)) (feed : Feed) (edges : Edges) (messages : List AskedMessage) (query : List ℕ) (place : ℕ) (why : Untaken) : Type 0 where
  pub request : Request
  pub request_is : query_of query feed.stops edges.profile.scale ≡ Ok request
  pub stopped : IsStopped files messages place why

-- why a query is not carried out
abbrev pub IsPlanRefusal : Option (List FileEntry) → Feed → Edges → List AskedMessage → List ℕ → Refusal → Type 0
IsPlanRefusal files feed edges messages query refusal.Words = ⊥
IsPlanRefusal files feed edges messages query (refusal.Feed fault) = ⊥
IsPlanRefusal files feed edges messages query (refusal.Request fault) = IsQueryFault feed edges query fault
IsPlanRefusal files feed edges messages query (refusal.Message place why) = IsHeldUp files feed edges messages query place why
IsPlanRefusal files feed edges messages query refusal.Read = Unit {0}
IsPlanRefusal files feed edges messages query refusal.Memory = Unit {0}
