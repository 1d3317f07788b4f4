use Rattle.std.proofs.Common.{◌≡◌, ℕ, ◌+◌, ap, subst, ◌∙◌, arith, Some, min}
use Rattle.std.specs.Prelude.{sum_by}
use Rattle.otp_base.specs.Doors.{TellTogether}
use Rattle.link_doors.specs.declared.memory_port.MemoryPort.{MemoryPort}
use Rattle.link_doors.proofs.ShareLemmas.{tell_sum}
use Rattle.link_doors.proofs.memory_door.MemoryDoorDoor.listen.Goals as goal

pub returns-clause-links : goal.returns-clause-links
returns-clause-links c =
    let share : MemoryPort → ℕ = λ p. p.share in
    let left = c.args.self.now.left in
    let back = c.args.self.now.back.items in
    let ports = c.in-Ok.ports.items in
    let links : c.in-Some.links ≡ left + sum_by share back = c.in-Some.ensures ∙ ap (λ b. left + sum_by share b) c.as_slice.ensures.value in
    let dealt : sum_by share ports ≡ min (left + sum_by share back) c.args.connections =
    c.in-Ok.ensures.links ∙ (c.min-most.ensures ∙ ap (λ n. min n c.args.connections) links) in
    let most = c.min-most.ensures in
    let stays = c.give_out.ensures.left in
    let none : sum_by share c.give_out.new.self.back.items ≡ 0 = ap (sum_by share) c.give_out.ensures.back in
    (subst (TellTogether (λ p. Some p.share) ports) dealt (tell_sum share ports), omega arith)
