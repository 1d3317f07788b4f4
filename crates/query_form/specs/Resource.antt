-- What the paths of requests name, and the method that each is asked for by (RFC 9110, sections 9.3.1 and 9.3.3). The
-- paths are this project's own.
use Rattle.std.specs.Prelude.{ℕ, Bool, true, false, ◌&&◌, List, length, take, drop, Option, Some, None, nat_le, codes, bytes_eq, if◌then◌else◌}
use Rattle.http_read.specs.declared.request.Method.{Method}
use Rattle.http_read.specs.declared.request.Method.TheVariants as method
use Rattle.otp_base.specs.Number.{number_of}
use Rattle.query_form.specs.declared.resource.Resource.{Resource}
use Rattle.query_form.specs.declared.resource.Resource.TheVariants as resource

-- what stands behind a beginning of a text
abbrev pub behind : List ℕ → List ℕ → Option (List ℕ)
behind beginning text = if bytes_eq (take (length beginning) text) beginning then Some (drop (length beginning) text) else None

-- a number of 1 or 2 digits
abbrev pub short_number : List ℕ → Option ℕ
short_number text = if nat_le (length text) 2 then number_of text else None

abbrev pub short_number_in : Option (List ℕ) → Option ℕ
short_number_in None = None
short_number_in (Some text) = short_number text

-- the N of `/updates/N`
abbrev pub feed_number : List ℕ → Option ℕ
feed_number path = short_number_in (behind (codes "/updates/") path)

abbrev pub updates_in : Option ℕ → Option Resource
updates_in None = None
updates_in (Some number) = Some (resource.Updates number)

abbrev pub updates_of : List ℕ → Option Resource
updates_of path = updates_in (feed_number path)

-- what a path names, if anything
abbrev pub resource_of : List ℕ → Option Resource
resource_of path =
    if bytes_eq path (codes "/plan") then Some resource.Plan
    else (if bytes_eq path (codes "/status") then Some resource.Status
    else (if bytes_eq path (codes "/commit") then Some resource.Commit
    else updates_of path))

-- the RT feed that it speaks of, if any, is one of so many, counted from 1
abbrev pub is_within : ℕ → Resource → Bool
is_within feeds resource.Plan = true
is_within feeds resource.Status = true
is_within feeds (resource.Updates number) = nat_le 1 number && nat_le number feeds
is_within feeds resource.Commit = true

abbrev pub is_get : Method → Bool
is_get method.Get = true
is_get method.Post = false
is_get method.Other = false

abbrev pub is_post : Method → Bool
is_post method.Get = false
is_post method.Post = true
is_post method.Other = false

-- it is asked for by this method
abbrev pub takes : Resource → Method → Bool
takes resource.Plan m = is_get m
takes resource.Status m = is_get m
takes (resource.Updates number) m = is_post m
takes resource.Commit m = is_post m
