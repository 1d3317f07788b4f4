-- The numbers of the reasons why an entity is ignored.
use Rattle.std.specs.Prelude.{ℕ, Option, Some, None}
use Rattle.rt_resolve.specs.declared.reason.Reason.{Reason}
use Rattle.rt_resolve.specs.declared.reason.Reason.TheVariants.{Deleted, NoUpdate, OtherRelation, NoTripId, WrongTrip, NoDay, NoRun, BadCalls, SameName}
use Rattle.rt_resolve.specs.declared.reason.Unresolved.{Unresolved}
use Rattle.rt_resolve.specs.declared.reason.Unresolved.TheVariants as unresolved

abbrev pub number_of : Reason → ℕ
number_of Deleted = 1
number_of NoUpdate = 2
number_of OtherRelation = 3
number_of NoTripId = 4
number_of WrongTrip = 5
number_of NoDay = 6
number_of NoRun = 7
number_of BadCalls = 8
number_of SameName = 9

-- the number of the reason; want of memory is none
abbrev pub told_reason : Unresolved → Option ℕ
told_reason (unresolved.Ignored reason) = Some (number_of reason)
told_reason unresolved.Memory = None
