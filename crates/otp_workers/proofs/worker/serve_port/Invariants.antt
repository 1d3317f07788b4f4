use Rattle.std.proofs.Common.{◌≡◌, false}
use Rattle.otp_workers.specs.Served.{HasServed}
use Rattle.otp_workers.proofs.worker.serve_port.Given as goal

abbrev pub invariant-loop : goal.invariant-loop
invariant-loop g l =
    (goal.iterator-loop g).can_next l.iterator' × (goal.iterator-loop g).is_finite l.iterator'
    × HasServed g.P.Port.links g.P.Port.faults (g.J.Job.fits l.job) (g.J.Job.becomes l.job) l.fn.worker l.worker
    × (l.worker.failed ≡ false)
