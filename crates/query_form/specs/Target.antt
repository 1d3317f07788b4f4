-- What the target of a request asks for: its path is what stands before the first `?`, its query what stands behind it
-- (RFC 9112, section 3.2.1). The order of its refusals is this project's own.
use Rattle.std.specs.Prelude.{ℕ, ◌≤◌, ◌==◌, List, [], Option, Some, None, Result, Ok, Err, if◌then◌else◌}
use Rattle.std.specs.Result.{result_map_both}
use Rattle.http_read.specs.declared.request.Method.{Method}
use Rattle.otp_base.specs.Answers.{Gives}
use Rattle.otp_base.specs.Cut.{cut}
use Rattle.otp_model.specs.declared.timetable.Stop.{Stop}
use Rattle.query_form.specs.declared.asked.Asked.{Asked}
use Rattle.query_form.specs.declared.asked.Asked.TheVariants as asked
use Rattle.query_form.specs.declared.fault.TargetFault.{TargetFault}
use Rattle.query_form.specs.declared.fault.TargetFault.TheVariants as target
use Rattle.query_form.specs.declared.parameter.Parameter.TheVariants as parameter
use Rattle.query_form.specs.declared.parameter.Refusal.{Refusal}
use Rattle.query_form.specs.declared.resource.Resource.{Resource}
use Rattle.query_form.specs.declared.resource.Resource.TheVariants as resource
use Rattle.query_form.specs.Pairs.{pairs_of}
use Rattle.query_form.specs.Query.{IsAsked, name_of, number_at, query_of}
use Rattle.query_form.specs.Resource.{is_within, resource_of, takes}

-- `b'?'`
abbrev pub question : ℕ
question = 63

abbrev pub parts_in : List ℕ → Option (List ℕ × List ℕ) → List ℕ × List ℕ
parts_in target None = (target, [])
parts_in target (Some parts) = parts

-- the path and the query of a target
abbrev pub parts_of : List ℕ → List ℕ × List ℕ
parts_of target = parts_in target (cut question target)

-- a parameter's refusal, as it is told
abbrev pub named : Refusal → TargetFault
named refusal = target.Query refusal.cause (name_of refusal.parameter)

-- whether an update is to be committed: its parameter `commit` is 0 or 1, and 0 where it is missing
abbrev pub commit_of : List ℕ → Result ℕ Refusal
commit_of query = number_at (pairs_of query) parameter.Commit 0 1 (Some 0)

abbrev pub update_of : ℕ → ℕ → Asked
update_of feed_no commit = asked.Update feed_no (commit == 1)

abbrev pub updated : ℕ → Result ℕ Refusal → Result Asked TargetFault
updated feed_no read = result_map_both (update_of feed_no) named read

-- what is asked of what a path names, by the query; a plan and an update have parameters
abbrev pub asked_in : Resource → List ℕ → List Stop → ℕ → Result Asked TargetFault
asked_in resource.Plan query stops scale = result_map_both asked.Plan named (query_of query stops scale)
asked_in resource.Status query stops scale = Ok asked.Status
asked_in (resource.Updates feed_no) query stops scale = updated feed_no (commit_of query)
asked_in resource.Commit query stops scale = Ok asked.Commit

-- The refusals stand in this order: the path names nothing, no RT feed has the number, the method is another, a parameter
-- is at fault.
abbrev pub asked_at : Option Resource → Method → List ℕ → List Stop → ℕ → ℕ → Result Asked TargetFault
asked_at None m query stops scale feeds = Err target.Path
asked_at (Some found) m query stops scale feeds =
    if is_within feeds found then (if takes found m then asked_in found query stops scale else Err target.Method)
    else Err target.FeedNumber

-- what a request with this method and target asks for, over so many RT feeds
abbrev pub asked_of : Method → List ℕ → List Stop → ℕ → ℕ → Result Asked TargetFault
asked_of m target stops scale feeds = asked_at (resource_of (parts_of target).0) m (parts_of target).1 stops scale feeds

-- the fault that was told, if one was; want of memory is none of a target's
abbrev pub told : TargetFault → Option TargetFault
told target.Path = Some target.Path
told target.FeedNumber = Some target.FeedNumber
told target.Method = Some target.Method
told (target.Query cause parameter) = Some (target.Query cause parameter)
told target.Memory = None

-- what was answered is what the target asks for, or its first fault, unless memory ran out
abbrev pub GivesAsked : Result Asked TargetFault → Result Asked TargetFault → Type 0
GivesAsked answer given = Gives (λ asked. asked) told answer given

-- the ranges of what was read
abbrev pub IsInRange : List Stop → ℕ → Asked → Type 0
IsInRange stops feeds (asked.Plan request) = IsAsked stops request
IsInRange stops feeds asked.Status = Unit {0}
IsInRange stops feeds (asked.Update feed_no commit) = (1 ≤ feed_no) × (feed_no ≤ feeds)
IsInRange stops feeds asked.Commit = Unit {0}
