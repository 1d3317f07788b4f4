use Rattle.std.proofs.Common.{take}
use Rattle.otp_base.specs.Doors.{AreFaultless}
use Rattle.link_doors.proofs.share.count_faults.Given as goal

abbrev pub invariant-loop-port : goal.invariant-loop-port
invariant-loop-port g l = AreFaultless g.P.SharePort.faults (take l.port-index l.ports)
