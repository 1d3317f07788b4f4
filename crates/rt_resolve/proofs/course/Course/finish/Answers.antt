use Rattle.rt_resolve.proofs.CourseLemmas.{with_none}
use Rattle.rt_resolve.proofs.course.Course.finish.Goals as goal

pub returns : goal.returns
returns c = with_none c.args.self
