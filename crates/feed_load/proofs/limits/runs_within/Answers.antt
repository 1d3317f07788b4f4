use Rattle.std.proofs.Common.{◌≤◌, arith}
use Rattle.otp_model.specs.Limits.{clock_end}
use Rattle.feed_load.proofs.limits.runs_within.Goals as goal

pub count_calls-requires-clause-clock : goal.count_calls-requires-clause-clock
count_calls-requires-clause-clock c =
    let early : c.latest_end.result ≤ clock_end = c.latest_end.ensures.least clock_end (λ k d less. let row = c.requires.headways k d less in omega (arith, row.end)) in
    omega (arith, early, c.in_ok-marks.ensures.times)

pub runs-requires-clause-clock : goal.runs-requires-clause-clock
runs-requires-clause-clock c =
    let early : c.latest_end.result ≤ clock_end = c.latest_end.ensures.least clock_end (λ k d less. let row = c.requires.headways k d less in omega (arith, row.end)) in
    omega (arith, early, c.in_ok-marks.ensures.times, c.in_ok-count_calls.ensures.times)
