use Rattle.std.proofs.Common.{arith, length, subst, ◌-◌, ◌+◌, ◌≡◌, ℕ, pos}
use Rattle.range_search.specs.Searches.{AreSearched, IsMomentAfter}
use Rattle.range_search.proofs.SearchLemmas.{last_but, later_all, moment_at, one_less, searched_more, searched_none}
use Rattle.range_search.proofs.search.search_all.Goals as goal

pub loop-seen-init : goal.loop-seen-init
loop-seen-init g c =
    let t = c.args.timetable.now in
    let all : length c.args.moments.now ≡ length c.args.moments.now - 0 = omega arith in
    subst (λ (n : ℕ). AreSearched (g.T.Timetable.runs t) (g.T.Timetable.blocks t) c.args.edges.now c.args.request.now c.args.moments.now n c.args.state.now) all
    (searched_none (g.T.Timetable.runs t) (g.T.Timetable.blocks t) c.args.edges.now c.args.request.now c.args.moments.now c.args.state.now c.requires.searched c.requires.unseen)

pub rounds-requires-clause-later : goal.rounds-requires-clause-later
rounds-requires-clause-later g c =
    let t = c.args.timetable.now in
    let moments = c.args.moments.now in
    let k = length moments - 1 - c.loop-seen.seen in
    let from : length moments - c.loop-seen.seen ≡ k + 1 = last_but (length moments) c.loop-seen.seen (omega arith) in
    later_all (g.T.Timetable.runs t) (g.T.Timetable.blocks t) c.args.edges.now c.args.request.now moments c.requires.rise k _ c.loop-seen.state (moment_at moments k (pos 0) (omega arith))
    (λ u on. subst (λ (n : ℕ). IsMomentAfter moments n u) from ((c.loop-seen.invariant.seen u).0 on))

pub loop-seen-preserved : goal.loop-seen-preserved
loop-seen-preserved g c =
    let t = c.args.timetable.now in
    let runs = g.T.Timetable.runs t in
    let blocks = g.T.Timetable.blocks t in
    let edges = c.args.edges.now in
    let r = c.args.request.now in
    let moments = c.args.moments.now in
    let k = length moments - 1 - c.loop-seen.seen in
    let from : length moments - c.loop-seen.seen ≡ k + 1 = last_but (length moments) c.loop-seen.seen (omega arith) in
    subst (λ (n : ℕ). AreSearched runs blocks edges r moments n c.rounds.new.state) (one_less (length moments) c.loop-seen.seen)
    (searched_more runs blocks edges r moments k _ c.loop-seen.state c.rounds.new.state (moment_at moments k (pos 0) (omega arith))
    (subst (λ (n : ℕ). AreSearched runs blocks edges r moments n c.loop-seen.state) from c.loop-seen.invariant) c.in_ok-rounds.ensures.searched c.in_ok-rounds.ensures.finals c.in_ok-rounds.ensures.departures)

pub returns : goal.returns
returns g c =
    let t = c.args.timetable.now in
    let moments = c.args.moments.now in
    let end : length moments - c.loop-seen.seen ≡ 0 = omega arith in
    subst (λ (n : ℕ). AreSearched (g.T.Timetable.runs t) (g.T.Timetable.blocks t) c.args.edges.now c.args.request.now moments n c.loop-seen.state) end c.loop-seen.invariant
