use Rattle.std.proofs.Common.{◌≡◌, ◌+◌, length}
use Rattle.std.specs.Prelude.{sum_by}
use Rattle.otp_base.specs.Doors.{AreFaultless}
use Rattle.link_doors.proofs.share.share_out.Given as goal

abbrev pub invariant-loop-worker : goal.invariant-loop-worker
invariant-loop-worker g l = record {
  count : length l.ports.items ≡ l.worker;
  shared : sum_by g.M.Port.SharePort.share l.ports.items + l.rest ≡ l.links;
  fresh : AreFaultless g.M.Port.SharePort.faults l.ports.items;
  last : l.worker ≡ l.workers → l.rest ≡ 0;
}
