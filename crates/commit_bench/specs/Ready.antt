-- The buffer of a run, which has one real-time feed.
use Rattle.std.specs.Prelude.{◌≡◌, List, length}
use Rattle.change_buffer.specs.Commits.{IsCommitted}
use Rattle.change_buffer.specs.Forms.{AreResolved}
use Rattle.change_buffer.specs.declared.feed_state.FeedState.{FeedState}
use Rattle.otp_model.specs.declared.message.Commit.{Commit}
use Rattle.otp_model.specs.declared.timetable.Feed.{Feed}

-- a buffer of one real-time feed, whose messages some commits published and were resolved over this feed
pub record IsReady (feed : Feed) (states : List FeedState) : Type 0 where
  pub one : length states ≡ 1
  pub history : List Commit
  pub committed : IsCommitted states history
  pub resolved : AreResolved feed states
