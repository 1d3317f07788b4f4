use Rattle.std.proofs.Common.{◌-◌, length}
use Rattle.range_search.specs.Searches.{AreSearched}
use Rattle.range_search.proofs.search.search_all.Given as goal

abbrev pub invariant-loop-seen : goal.invariant-loop-seen
invariant-loop-seen g l = AreSearched (g.T.Timetable.runs l.timetable) (g.T.Timetable.blocks l.timetable) l.edges l.request l.moments (length l.moments - l.seen) l.state
