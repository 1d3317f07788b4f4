-- What a plan says.
use Rattle.std.specs.Prelude.{◌≡◌, ℕ, ◌≤◌, List}
use Rattle.otp_model.specs.Limits.{most_scale}
use Rattle.otp_model.specs.Ranges.{CanWalk}
use Rattle.otp_model.specs.Sound.{IsSound}
use Rattle.otp_model.specs.Whole.{IsPage}
use Rattle.otp_model.specs.declared.journey.Page.{Page}
use Rattle.otp_model.specs.declared.journey.Request.{Request}
use Rattle.otp_model.specs.declared.timetable.Edges.{Edges}
use Rattle.otp_model.specs.declared.timetable.Feed.{Feed}
use Rattle.otp_model.specs.declared.timetable.Run.{Run}
use Rattle.plan_json.specs.Body.{IsBodyOf}
use Rattle.plan_json.specs.declared.body.Body.{Body}
use Rattle.plan_json.specs.declared.body.Body.TheVariants.{Plan}
use Rattle.walk_table.specs.Direct.{IsDirect}

-- a sound feed with edges between its stops, whose profile is in its ranges
pub record IsSearchable (feed : Feed) (edges : Edges) : Type 0 where
  pub sound : IsSound feed
  pub stops : edges.stops ≡ feed.stops
  pub walks : CanWalk edges.profile
  pub scale : edges.profile.scale ≤ most_scale

-- the page of a request's best journeys over these runs, its direct walk, and the number of commits
pub record IsPlanOf (runs : List Run) (edges : Edges) (r : Request) (number : ℕ) (body : Body) : Type 0 where
  pub page : Page
  pub page_is : IsPage runs edges r page.found page.more
  pub direct_is : IsDirect edges r.from r.to page.direct
  pub body_is : body ≡ Plan number r.cursor r.at_least page
