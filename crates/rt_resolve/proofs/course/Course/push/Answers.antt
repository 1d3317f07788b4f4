use Rattle.std.proofs.Common.{rules, FitsSigned, w64}
use Rattle.std.proofs.lemmas.Int.{to_z-of_z}
use Rattle.rt_resolve.proofs.CourseLemmas.{push_raised}
use Rattle.rt_resolve.proofs.course.Course.push.Goals as goal

pub returns : goal.returns
returns c = λ rest.
    let given : FitsSigned w64 c.args.call.arrival = search rules in
    let left : FitsSigned w64 c.args.call.departure = search rules in
    let latest : FitsSigned w64 c.unwrap_or-latest.result = search rules in
    let arrival : FitsSigned w64 c.max-arrival.result = search rules in
    let departure : FitsSigned w64 c.max-departure.result = search rules in
    let l = simp to_z-of_z at c.unwrap_or-latest.ensures in
    let a = simp to_z-of_z at c.max-arrival.ensures.value in
    let d = simp to_z-of_z at c.max-departure.ensures.value in
    let p = simp to_z-of_z at c.in_ok-push.ensures.ok in
    simp to_z-of_z (push_raised c.args.self.now c.args.call c.unwrap_or-latest.result c.max-arrival.result c.max-departure.result c.push.new.self l a d p rest)
