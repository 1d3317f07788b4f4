-- How what is settled by steps joins.
use Rattle.std.proofs.Common.{◌≡◌, ◌⊎◌, inl, inr, ℕ, ◌+◌, ◌≤◌, ◌<◌, ℤ, pos, ◌≤ℤ◌, List, [], ◌∷◌, ◌++◌, Some, length, get_or, take, refl, sym, ap, subst, ◌∙◌, arith}
use Rattle.std.specs.List.{Contains, slice_get}
use Rattle.std.proofs.lemmas.Bool.{cases_lt}
use Rattle.std.proofs.lemmas.Int.{ints}
use Rattle.std.proofs.lemmas.List.{take_more, take_all, get_or_default}
use Rattle.std.proofs.lemmas.List.Elements.{All-contains, All-contains_itself, All-weaker, Contains-get_or, Contains-push_cases}
use Rattle.otp_base.specs.Adds.{Adds, FromBelow, FromSome}
use Rattle.otp_base.specs.EachAt.{EachAt}
use Rattle.otp_base.proofs.EachAtLemmas.{each_push, each_weaker}
use Rattle.otp_model.specs.declared.journey.Request.{Request}
use Rattle.walk_table.specs.declared.reach.Reach.{Reach}
use Rattle.final_fronts.specs.declared.step.Step.{Step}
use Rattle.raptor_rounds.specs.declared.bags.StopBags.{StopBags}
use Rattle.raptor_rounds.specs.declared.node.Node.{Node}
use Rattle.raptor_rounds.specs.declared.node.Final.{Final}
use Rattle.raptor_rounds.specs.declared.state.RoundState.{RoundState}
use Rattle.raptor_rounds.specs.Closure.{Entry, IsMet, IsNoWorse}
use Rattle.raptor_rounds.specs.Labels.{HasFinals, InArena, InFinals, IsFinal, IsFinalBy, entry_of, final_by}
use Rattle.raptor_rounds.specs.Rides.{IsNodeInRange}
use Rattle.raptor_rounds.specs.States.{AreBags, AreFronts, IsCoveredAt, IsEntryOf, IsInRangeAt, IsItself, IsKeptCovered, IsLate, IsOpenAt, IsStateSettled, Settles, bounds_of}
use Rattle.raptor_rounds.proofs.ArenaLemmas.{kept_push, last_push, push_cases}
use Rattle.raptor_rounds.proofs.ClosureLemmas.{no_worse_same, settled_more, settled_worse}
use Rattle.raptor_rounds.proofs.LostLemmas.{same_ℤ}

module _ (r : Request) (d : ℤ) where
  -- what is settled stays so while the state grows
  pub still_settled : (Q : Entry → Type 0) (P : Node → Type 0) (old new : RoundState) (e : Entry) → Settles r d Q P old new → IsStateSettled r old e → IsStateSettled r new e
  still_settled Q P old new e s was =
      rw s.aim_is (settled_more r (bounds_of old) (InArena old.arena.items) (InArena new.arena.items) (InFinals old.finals.items) (InFinals new.finals.items) e
      (λ x on. (on.0, on.1, s.kept on.0 on.1 on.2, on.3)) (λ f on. (on.0, s.grown on.0 on.1, on.2)) was)

  pub settles_was : (Q : Entry → Type 0) (P : Node → Type 0) (s : RoundState) → IsOpenAt r d s → ((e : Entry) → Q e → IsStateSettled r s e) → Settles r d Q P s s
  settles_was Q P s open_is is = record {
    open_is = open_is;
    aim_is = refl;
    departures_are = refl;
    kept = λ i n h. h;
    grown = λ f on. on;
    settled = is;
    only = λ i n h. inl h;
  }

  pub settles_none : (Q : Entry → Type 0) (P : Node → Type 0) (s : RoundState) → IsOpenAt r d s → ((e : Entry) → Q e → ⊥) → Settles r d Q P s s
  settles_none Q P s open_is never = settles_was Q P s open_is (λ e q. absurd (never e q))

  -- the same, and whatever is no better
  pub settles_as : (Q Q' : Entry → Type 0) (P P' : Node → Type 0) (old new : RoundState) → ((e : Entry) → Q' e → (b : Entry) × Q b × IsNoWorse b e) → ((n : Node) → P n → P' n)
      → Settles r d Q P old new → Settles r d Q' P' old new
  settles_as Q Q' P P' old new better from s = record {
    open_is = s.open_is;
    aim_is = s.aim_is;
    departures_are = s.departures_are;
    kept = s.kept;
    grown = s.grown;
    settled = λ e q. let b = better e q in settled_worse r (bounds_of new) (InArena new.arena.items) (InFinals new.finals.items) b.0 e b.2 (s.settled b.0 b.1);
    only = λ i n h. elim (s.only i n h) [ inl o ↦ inl o | inr p ↦ inr (from n p) ];
  }

  pub settles_for : (Q Q' : Entry → Type 0) (P P' : Node → Type 0) (old new : RoundState) → ((e : Entry) → Q' e → Q e) → ((n : Node) → P n → P' n)
      → Settles r d Q P old new → Settles r d Q' P' old new
  settles_for Q Q' P P' old new there from = settles_as Q Q' P P' old new (λ e q. (e, there e q, no_worse_same e)) from

  -- first the one, then the other
  pub settles_then : (Q Q' : Entry → Type 0) (P : Node → Type 0) (a b c : RoundState) → Settles r d Q P a b → Settles r d Q' P b c → Settles r d (λ e. Q e ⊎ Q' e) P a c
  settles_then Q Q' P a b c s t = record {
    open_is = t.open_is;
    aim_is = t.aim_is ∙ s.aim_is;
    departures_are = t.departures_are ∙ s.departures_are;
    kept = λ i n h. t.kept i n (s.kept i n h);
    grown = λ f on. t.grown f (s.grown f on);
    settled = λ e q. elim q [ inl p ↦ still_settled Q' P b c e t (s.settled e p) | inr p ↦ t.settled e p ];
    only = λ i n h. elim (t.only i n h) [ inl m ↦ elim (s.only i n m) [ inl o ↦ inl o | inr p ↦ inr p ] | inr p ↦ inr p ];
  }

  -- a loop's step over numbers
  pub settles_more_below : (R : ℕ → Entry → Type 0) (P : Node → Type 0) (i : ℕ) (a b c : RoundState) → Settles r d (FromBelow R i) P a b → Settles r d (R i) P b c → Settles r d (FromBelow R (i + 1)) P a c
  settles_more_below R P i a b c s t = settles_for (λ e. FromBelow R i e ⊎ R i e) (FromBelow R (i + 1)) P P a c back (λ n p. p) (settles_then (FromBelow R i) (R i) P a b c s t)
    where
      back : (e : Entry) → FromBelow R (i + 1) e → FromBelow R i e ⊎ R i e
      back e h = elim (cases_lt h.0 i) [ inl k ↦ inl (h.0, k, h.2) | inr k ↦ inr (subst (λ (j : ℕ). R j e) (omega (arith, h.1, k)) h.2) ]

  -- a loop's step over a list
  pub settles_more_some : {A : Type 0} (R : A → Entry → Type 0) (P : Node → Type 0) (xs : List A) (i : ℕ) (x : A) (a b c : RoundState) → i < length xs → x ≡ get_or xs i x
      → Settles r d (FromSome R (take i xs)) P a b → Settles r d (R x) P b c → Settles r d (FromSome R (take (i + 1) xs)) P a c
  settles_more_some {A} R P xs i x a b c less x_is s t =
      settles_for (λ e. FromSome R (take i xs) e ⊎ R x e) (FromSome R (take (i + 1) xs)) P P a c back (λ n p. p) (settles_then (FromSome R (take i xs)) (R x) P a b c s t)
    where
      more : take (i + 1) xs ≡ take i xs ++ x ∷ []
      more = take_more xs i x less ∙ ap (λ (z : A). take i xs ++ z ∷ []) (sym x_is)

      back : (e : Entry) → FromSome R (take (i + 1) xs) e → FromSome R (take i xs) e ⊎ R x e
      back e h = elim (Contains-push_cases (take i xs) x h.0 (rw more at h.1)) [ inl k ↦ inl (h.0, k, h.2) | inr k ↦ inr (subst (λ (z : A). R z e) (sym k) h.2) ]

  -- the same, where the element is read with a default
  pub settles_more_at : {A : Type 0} (R : A → Entry → Type 0) (P : Node → Type 0) (xs : List A) (i : ℕ) (x : A) (a b c : RoundState) → i < length xs
      → Settles r d (FromSome R (take i xs)) P a b → Settles r d (R (get_or xs i x)) P b c → Settles r d (FromSome R (take (i + 1) xs)) P a c
  settles_more_at R P xs i x a b c less s t = settles_more_some R P xs i (get_or xs i x) a b c less (get_or_default xs i x (get_or xs i x) less) s t

  -- the same, where what comes of each comes of some
  pub settles_each : {A : Type 0} (R : A → Entry → Type 0) (S : A → Node → Type 0) (xs : List A) (i : ℕ) (x : A) (a b c : RoundState) → i < length xs
      → Settles r d (FromSome R (take i xs)) (FromSome S xs) a b → Settles r d (R (get_or xs i x)) (S (get_or xs i x)) b c → Settles r d (FromSome R (take (i + 1) xs)) (FromSome S xs) a c
  settles_each R S xs i x a b c less s t =
      settles_more_at R (FromSome S xs) xs i x a b c less s
      (settles_for (R (get_or xs i x)) (R (get_or xs i x)) (S (get_or xs i x)) (FromSome S xs) b c (λ e q. q) (λ n p. (get_or xs i x, Contains-get_or xs i x less, p)) t)

  pub settles_some_all : {A : Type 0} (R : A → Entry → Type 0) (P : Node → Type 0) (xs : List A) (i : ℕ) (a b : RoundState) → length xs ≤ i
      → Settles r d (FromSome R (take i xs)) P a b → Settles r d (FromSome R xs) P a b
  settles_some_all R P xs i a b l s = rw (take_all i xs l) at s

-- ---- one label

-- fronts stay those of finals while these grow
fronts_more : (old new : List Final) (fronts : List (List Step)) → ((f : Final) → Contains old f → Contains new f) → AreFronts old fronts → AreFronts new fronts
fronts_more old new fronts more are k front h step on = let s = are k front h step on in record { by = s.by; on = more s.by s.on; few = s.few; step_is = s.step_is }

-- what a bag covers is met
pub met_in : (nodes : List Node) (bags : List StopBags) (n : Node) → AreBags nodes bags → EachAt (IsLate n.departure) nodes → IsCoveredAt bags n → IsMet (InArena nodes) (entry_of n)
met_in nodes bags n bags_are late c =
    let any = c.covered.covered in
    let l = any.1 in
    let early : l.time ≤ℤ n.time = any.4.0 in
    let cheap : l.penalty ≤ℤ pos n.penalty = any.4.1 in
    let at = bags_are n.stop c.at c.at_is c.covered.k c.covered.bag c.covered.bag_is l (any.0, any.2, any.3) in
    let time : l.time ≡ at.node.time = at.time_is in
    let penalty : l.penalty ≡ pos at.node.penalty = at.penalty_is in (
      entry_of at.node,
      (l.number, at.node, at.node_is, refl),
      record {
        same = at.stop_is;
        late = late l.number at.node at.node_is;
        few = omega (arith, at.rides_are, c.covered.few);
        early = rw time at early;
        cheap = omega (arith, ints, penalty, cheap);
      },
    )

pub met_by_bag : (r : Request) (s : RoundState) (n : Node) → IsOpenAt r n.departure s → IsCoveredAt s.bags.items n → IsMet (InArena s.arena.items) (entry_of n)
met_by_bag r s n open_is c = met_in s.arena.items s.bags.items n open_is.open_is.bags_are open_is.late c

-- a label that was pushed, with its finals
pub record IsPushed (r : Request) (n : Node) (old new : RoundState) : Type 0 where
  pub aim_is : new.aim ≡ old.aim
  pub departures_are : new.departures.items ≡ old.departures.items
  pub arena_is : new.arena.items ≡ old.arena.items ++ n ∷ []
  pub bags_are : AreBags (old.arena.items ++ n ∷ []) new.bags.items
  pub covered : EachAt (IsKeptCovered new.bags.items) (old.arena.items ++ n ∷ [])
  pub finals_are : Adds (FromSome (IsFinalBy r (length old.arena.items) n) old.aim.egress.items) old.finals.items new.finals.items
  pub fronts_are : AreFronts new.finals.items old.fronts.items → AreFronts new.finals.items new.fronts.items

module _ (r : Request) (n : Node) (old new : RoundState) (range : IsNodeInRange r n) (open_is : IsOpenAt r n.departure old) (p : IsPushed r n old new) where
  has_finals : EachAt (HasFinals r old.aim.egress.items new.finals.items) (old.arena.items ++ n ∷ [])
  has_finals = each_push (HasFinals r old.aim.egress.items new.finals.items) old.arena.items n
      (each_weaker (HasFinals r old.aim.egress.items old.finals.items) (HasFinals r old.aim.egress.items new.finals.items) old.arena.items
      (λ i m has reach on stop. p.finals_are.kept (final_by r i m reach) (has reach on stop)) open_is.open_is.ended)
      (λ reach on stop. p.finals_are.added (final_by r (length old.arena.items) n reach) (reach, on, (stop, refl)))

  is_final : (f : Final) → Contains new.finals.items f → IsFinal r old.aim.egress.items (old.arena.items ++ n ∷ []) f
  is_final f on = elim (p.finals_are.only f on) [ inl was ↦ before was | inr h ↦ newest h.0 h.1 h.2 ]
    where
      before : Contains old.finals.items f → IsFinal r old.aim.egress.items (old.arena.items ++ n ∷ []) f
      before was =
          let x = All-contains (IsFinal r old.aim.egress.items old.arena.items) old.finals.items f open_is.open_is.finals_are was in
          record { node = x.node; node_is = kept_push old.arena.items n f.label x.node x.node_is; reach = x.reach; on = x.on; is = x.is }

      newest : (reach : Reach) → Contains old.aim.egress.items reach → IsFinalBy r (length old.arena.items) n reach f → IsFinal r old.aim.egress.items (old.arena.items ++ n ∷ []) f
      newest reach from is =
          let label : f.label ≡ length old.arena.items = ap (λ (z : Final). z.label) is.1 in
          record {
            node = n;
            node_is = subst (λ (i : ℕ). slice_get (old.arena.items ++ n ∷ []) i ≡ Some n) (sym label) (last_push old.arena.items n);
            reach = reach;
            on = from;
            is = subst (λ (i : ℕ). IsFinalBy r i n reach f) (sym label) is;
          }

  open_pushed : IsOpenAt r n.departure new
  open_pushed = record {
    open_is = record {
      bags_are = rw p.arena_is p.bags_are;
      covered = rw p.arena_is p.covered;
      in_range = rw p.arena_is (each_push (IsInRangeAt r) old.arena.items n open_is.open_is.in_range range);
      ended = rw (p.arena_is, p.aim_is) has_finals;
      finals_are = rw (p.arena_is, p.aim_is) (All-weaker (Contains new.finals.items) (IsFinal r old.aim.egress.items (old.arena.items ++ n ∷ [])) is_final new.finals.items (All-contains_itself new.finals.items));
      fronts = p.fronts_are (fronts_more old.finals.items new.finals.items old.fronts.items p.finals_are.kept open_is.open_is.fronts);
    };
    late = rw p.arena_is (each_push (IsLate n.departure) old.arena.items n open_is.late (same_ℤ n.departure));
  }

  pub settles_push : Settles r n.departure (IsEntryOf n) (IsItself n) old new
  settles_push = record {
    open_is = open_pushed;
    aim_is = p.aim_is;
    departures_are = p.departures_are;
    kept = λ i m h. rw p.arena_is (kept_push old.arena.items n i m h);
    grown = p.finals_are.kept;
    settled = λ e same. inl (entry_of n, (length old.arena.items, n, rw p.arena_is (last_push old.arena.items n), refl), subst (IsNoWorse (entry_of n)) same (no_worse_same (entry_of n)));
    only = λ i m h. push_cases old.arena.items n i m (rw p.arena_is at h);
  }
