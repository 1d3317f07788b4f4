-- What replies say beside the pages of plans (their forms are this project's own), as JSON with the keys of each object in
-- the order of their bytes.
use Rattle.std.specs.Prelude.{ℕ, List, map, length, Bool, Option, None, Some, codes}
use Rattle.otp_model.specs.declared.timetable.Feed.{Feed}
use Rattle.serde_json.specs.Data.{Data, null, boolean, number, string, array, object, unsigned, member, no_members}
use Rattle.serde_json.specs.View.{items_of}

abbrev pub number_data : ℕ → Data
number_data n = number (unsigned n)

abbrev pub number_or_null : Option ℕ → Data
number_or_null None = null
number_or_null (Some n) = number_data n

abbrev pub numbers_data : List ℕ → Data
numbers_data numbers = array (items_of (map number_data numbers))

-- the number of commits, and how many runs and stops the feed has
abbrev pub status_data : Feed → ℕ → Data
status_data feed commit =
    object (member (codes "commit") (number_data commit)
    (member (codes "runs") (number_data (length feed.runs))
    (member (codes "stops") (number_data (length feed.stops)) no_members)))

-- how many messages were accepted so far, the number of commits where the message was committed at once, and how many of its
-- updates were ignored for each reason
abbrev pub updated_data : ℕ → Option ℕ → List ℕ → Data
updated_data accepted commit ignored =
    object (member (codes "accepted") (number_data accepted)
    (member (codes "commit") (number_or_null commit)
    (member (codes "ignored") (numbers_data ignored) no_members)))

-- the number of commits, and whether there was something to commit
abbrev pub committed_data : ℕ → Bool → Data
committed_data commit done = object (member (codes "commit") (number_data commit) (member (codes "done") (boolean done) no_members))

abbrev pub refused_data : List ℕ → Data
refused_data name = object (member (codes "error") (string name) no_members)

abbrev pub parameter_data : List ℕ → List ℕ → Data
parameter_data name parameter = object (member (codes "error") (string name) (member (codes "parameter") (string parameter) no_members))

-- a fault at an offset of the body, if it has one
abbrev pub offset_data : List ℕ → Option ℕ → Data
offset_data name at = object (member (codes "at") (number_or_null at) (member (codes "error") (string name) no_members))

-- what was not taken, beside what is kept
abbrev pub kept_data : List ℕ → ℕ → Data
kept_data name have = object (member (codes "error") (string name) (member (codes "have") (number_data have) no_members))
