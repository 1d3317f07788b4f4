use Rattle.otp_workers.proofs.Serving.{serves_one}
use Rattle.otp_workers.proofs.worker.serve_port.Goals as goal

pub loop-preserved : goal.loop-preserved
loop-preserved g c = (
  tt,
  tt,
  serves_one _ _ _ _ _ _ _ c.in-Link.input c.in-Link.output c.loop.invariant.2 c.in-Link.ensures.links c.in-Link.ensures.later c.serve_link.ensures.fits c.serve_link.ensures.becomes,
  c.loop.invariant.3,
)
