use Rattle.std.proofs.Common.{List, Vec, Global, subst, sym, ℤ}
use Rattle.std.proofs.lemmas.Result.{IfOk-weaker}
use Rattle.otp_base.specs.declared.memory.Memory.{Memory}
use Rattle.otp_model.specs.declared.journey.Found.{Found}
use Rattle.otp_model.specs.Whole.{IsWhole}
use Rattle.otp_model.specs.declared.journey.Request.{Request}
use Rattle.otp_model.specs.declared.timetable.Edges.{Edges}
use Rattle.otp_model.specs.declared.timetable.Run.{Run}
use Rattle.pareto_front.specs.Front.{AreEnough}
use Rattle.walk_table.specs.Reaches.{AreReached}
use Rattle.walk_table.specs.declared.reach.Reach.{Reach}
use Rattle.raptor_rounds.specs.Moments.{AreMoments}
use Rattle.range_search.specs.Searches.{AreSearched}
use Rattle.range_search.proofs.OfferLemmas.{finals_kept, offers_enough}
use Rattle.range_search.proofs.search.best.Goals as goal

pub end_bounds-requires-clause-egress : goal.end_bounds-requires-clause-egress
end_bounds-requires-clause-egress g c = subst (AreReached c.args.edges.now c.args.request.now.to) (sym c.deref.ensures.value) c.in_ok-egress.ensures.reached

pub search_all-requires-clause-access : goal.search_all-requires-clause-access
search_all-requires-clause-access g c = subst (AreReached c.args.edges.now c.args.request.now.from) (sym c.deref-3.ensures.value) c.in_ok-access.ensures.reached

pub search_all-requires-clause-rise : goal.search_all-requires-clause-rise
search_all-requires-clause-rise g c = rw c.deref-4.ensures.value c.in_ok-moments.ensures.rise

pub search_all-requires-clause-searched : goal.search_all-requires-clause-searched
search_all-requires-clause-searched g c =
    let t = c.args.timetable.now in
    c.in_ok-state.ensures.searched (g.T.Timetable.runs t) (g.T.Timetable.blocks t) c.args.edges.now c.args.request.now c.in_ok-egress.ensures.reached c.in_ok-bounds.ensures.bounds

pub offers_of-requires : goal.offers_of-requires
offers_of-requires g c =
    let t = c.args.timetable.now in
    finals_kept (g.T.Timetable.runs t) (g.T.Timetable.blocks t) c.args.edges.now c.args.request.now c.search_all.new.state c.in_ok-search_all.ensures.searched

pub returns : goal.returns
returns g c =
    let t = c.args.timetable.now in
    let runs = g.T.Timetable.runs t in
    let edges = c.args.edges.now in
    let r = c.args.request.now in
    let moments = subst (λ (access : List Reach). AreMoments runs r access c.in_ok-moments.moments.items) c.deref-2.ensures.value c.in_ok-moments.ensures in
    let searched = subst (λ (times : List ℤ). AreSearched runs (g.T.Timetable.blocks t) edges r times 0 c.search_all.new.state) c.deref-4.ensures.value c.in_ok-search_all.ensures in
    let enough = offers_enough runs (g.T.Timetable.blocks t) edges r c.in_ok-access.access.items c.in_ok-moments.moments.items c.search_all.new.state c.in_ok-offers.offers.items c.requires.numbers.walk_points.0
    c.in_ok-access.ensures.reached moments searched c.in_ok-offers.ensures in
    IfOk-weaker {X = Vec Found Global} {Y = Memory} c.front_of.result
    (λ (list : Vec Found Global). (a : List Run) (b : Edges) (q : Request) → AreEnough a b q c.in_ok-offers.offers.items → IsWhole a b q list.items)
    (λ (list : Vec Found Global). IsWhole runs edges r list.items) (λ list whole. whole runs edges r enough) c.front_of.ensures.whole
