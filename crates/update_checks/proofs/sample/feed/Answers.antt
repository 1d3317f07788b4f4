use Rattle.std.proofs.Common.{refl}
use Rattle.update_checks.proofs.SampleLemmas.{pushed, sample_sound}
use Rattle.update_checks.proofs.sample.feed.Goals as goal

pub returns : goal.returns
returns c =
    sample_sound _ _ _ c.in_ok-calls.field-0 (pushed _ _ _ c.new-stops.ensures c.in_ok-push.ensures.ok) refl (pushed _ _ _ c.new-trips.ensures c.in_ok-push-2.ensures.ok)
    (pushed _ _ _ c.new-runs.ensures c.in_ok-push-3.ensures.ok) c.in_ok-calls.ensures refl refl
