-- Marks: who comes to a stop no better than one who boarded there needn't board.
use Rattle.std.proofs.Common.{◌≡◌, ℕ, ℤ, ◌≤ℤ◌, List, refl, sym, subst, ◌∙◌}
use Rattle.otp_base.proofs.EachAtLemmas.{each_push}
use Rattle.otp_model.specs.declared.journey.Request.{Request}
use Rattle.otp_model.specs.declared.timetable.Edge.{Edge}
use Rattle.otp_model.specs.declared.timetable.Run.{Run}
use Rattle.raptor_rounds.specs.declared.marks.Marks.{Marks}
use Rattle.raptor_rounds.specs.declared.node.Node.{Node}
use Rattle.raptor_rounds.specs.declared.ready.Ready.{Ready}
use Rattle.raptor_rounds.specs.declared.state.RoundState.{RoundState}
use Rattle.raptor_rounds.specs.Closure.{Entry, IsNoWorse}
use Rattle.raptor_rounds.specs.Labels.{InArena, InFinals, entry_of}
use Rattle.raptor_rounds.specs.Marks.{AreMarks, CanBoard, IsBoardedAt, IsBoardedOut, IsMarked, entry_after, mark_of}
use Rattle.raptor_rounds.specs.Rides.{Boards, ready_by}
use Rattle.raptor_rounds.specs.States.{IsCoveredAt, IsLate, IsStateSettled, Saw, SawDepartureOf, Settles, bounds_of}
use Rattle.raptor_rounds.proofs.ClosureLemmas.{settled_worse}
use Rattle.raptor_rounds.proofs.LostLemmas.{same_ℤ, trans_ℤ}
use Rattle.raptor_rounds.proofs.SettleLemmas.{met_in, still_settled}

module _ (runs : List Run) (r : Request) (d : ℤ) where
  -- while the state grows
  pub marks_still : (Q : Entry → Type 0) (P : Node → Type 0) (old new : RoundState) (marks : Marks) → Settles r d Q P old new → AreMarks runs r old d marks → AreMarks runs r new d marks
  marks_still Q P old new marks s m = record {
    kept = record {
      bags_are = m.kept.bags_are;
      seen = λ i n h. rw s.departures_are (m.kept.seen i n h);
      boarded = λ i n h hop can. still_settled r d Q P old new (entry_after (entry_of n) hop) s (m.kept.boarded i n h hop can);
    };
    late = m.late;
    saw = rw s.departures_are m.saw;
  }

  pub marks_put : (s : RoundState) (old new : Marks) (mark : Node) → AreMarks runs r s d old → IsMarked old mark new → mark.departure ≡ d → IsBoardedOut runs r s (entry_of mark) → AreMarks runs r s d new
  marks_put s old new mark m put at boarded = record {
    kept = record {
      bags_are = rw put.nodes_are (put.bags_are m.kept.bags_are);
      seen = rw put.nodes_are (each_push (SawDepartureOf s) old.nodes.items mark m.kept.seen (subst (Saw s) (sym at) m.saw));
      boarded = rw put.nodes_are (each_push (IsBoardedAt runs r s) old.nodes.items mark m.kept.boarded boarded);
    };
    late = rw put.nodes_are (each_push (IsLate d) old.nodes.items mark m.late (subst (λ (t : ℤ). d ≤ℤ t) (sym at) (same_ℤ d)));
    saw = m.saw;
  }

-- what a mark meets is settled
pub marked_settled : (runs : List Run) (r : Request) (s : RoundState) (b : Ready) (marks : Marks) → AreMarks runs r s b.departure marks → IsCoveredAt marks.bags.items (mark_of b) → (e : Entry) → Boards runs b e → IsStateSettled r s e
marked_settled runs r s b marks m covered e q =
    let met = met_in marks.nodes.items marks.bags.items (mark_of b) m.kept.bags_are m.late covered in
    let on = met.1 in
    let n = on.1 in
    let x : IsNoWorse (entry_of n) (entry_of (mark_of b)) = subst (λ (y : Entry). IsNoWorse y (entry_of (mark_of b))) (sym on.3) met.2 in
    let h = q.hop in
    let t = q.in_time in
    let can : CanBoard runs (entry_of n) h = record { stop_is = q.stop_is ∙ sym x.same; in_time = trans_ℤ n.time b.time h.board.departure x.early t.not_before; ride = q.ride } in
    settled_worse r (bounds_of s) (InArena s.arena.items) (InFinals s.finals.items) (entry_after (entry_of n) h) e
    (subst (IsNoWorse (entry_after (entry_of n) h)) (sym q.entry_is) (record { same = refl; late = x.late; few = x.few; early = same_ℤ h.alight.arrival; cheap = x.cheap }))
    (m.kept.boarded on.0 n on.2 h can)

-- who boarded at each time leaves a mark
pub boarded_out : (runs : List Run) (r : Request) (s : RoundState) (i : ℕ) (n : Node) (edge : Edge) (b : Ready) → b ≡ ready_by r i n edge → ((e : Entry) → Boards runs (ready_by r i n edge) e → IsStateSettled r s e)
    → IsBoardedOut runs r s (entry_of (mark_of b))
boarded_out runs r s i n edge b is settled h can =
    subst (λ (x : Ready). CanBoard runs (entry_of (mark_of x)) h → IsStateSettled r s (entry_after (entry_of (mark_of x)) h)) (sym is)
    (λ can. settled (entry_after (entry_of (mark_of (ready_by r i n edge))) h) (record { hop = h; ride = can.ride; stop_is = can.stop_is; in_time = record { not_before = can.in_time; until = tt }; entry_is = refl })) can
