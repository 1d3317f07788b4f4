use Rattle.std.proofs.Common.{◌≡◌, ℕ, ap, sym, subst, arith}
use Rattle.std.specs.Prelude.{sum_by}
use Rattle.otp_base.specs.Doors.{CountsFaults}
use Rattle.link_doors.specs.declared.memory_port.MemoryPort.{MemoryPort}
use Rattle.link_doors.proofs.ShareLemmas.{sum_told}
use Rattle.link_doors.proofs.memory_door.MemoryDoorDoor.close.Goals as goal

pub returns-clause-links : goal.returns-clause-links
returns-clause-links c = λ total told.
    let share : MemoryPort → ℕ = λ p. p.share in
    let sum = sum_told share c.args.ports.items total told in
    let left = c.keep.ensures.left in
    let before : sum_by share c.args.self.now.back.items ≡ 0 = ap (sum_by share) c.keep.ensures.before in
    let now : sum_by share c.keep.new.self.back.items ≡ sum_by share c.args.ports.items = ap (sum_by share) c.keep.ensures.back in
    omega arith

pub returns-clause-cause : goal.returns-clause-cause
returns-clause-cause c =
    let faults : MemoryPort → ℕ = λ p. p.faults in
    let counted = subst (CountsFaults faults c.args.self.now.faults c.count_faults-faults.result) c.as_slice.ensures.value c.count_faults-faults.ensures in
    subst (λ now. CountsFaults faults c.args.self.now.faults now c.args.ports.items) (sym c.keep.ensures.faults) counted
