-- The changes from one schedule to another, and what they make of the first.
use Rattle.std.proofs.Common.{◌≡◌, ◌≢◌, ℕ, zero, suc, ◌<◌, Bool, true, false, not, List, [], ◌∷◌, ◌++◌, map, length, get_or, Option, Some, None, inl, inr, refl, sym, ◌∙◌, ap, subst, arith}
use Rattle.std.specs.Bool.{Decides}
use Rattle.std.specs.Cmp.Lexicographic.{pointwise}
use Rattle.std.specs.List.{All, Contains, filter, flat_map}
use Rattle.std.specs.List.Sorted.{IsPermutation}
use Rattle.std.specs.Option.{option_map, option_map_or, option_or}
use Rattle.std.proofs.lemmas.Bool.{and_from, and_parts, both_ways, eq-eqb, eqb-true}
use Rattle.std.proofs.lemmas.Bool.Decides.{Decides-int_eq}
use Rattle.std.proofs.lemmas.List.Elements.{All-cons, All-nil}
use Rattle.std.proofs.lemmas.Slice.Eq.{slice_eq-Decides}
use Rattle.otp_model.specs.Names.{run_name_cmp}
use Rattle.otp_model.specs.Patterns.{is_changed, is_same_flag, run_changed, with_changes}
use Rattle.otp_model.specs.Resolution.{is_same_name}
use Rattle.otp_model.specs.Schedule.{AreDifferences, calls_in, sched}
use Rattle.otp_model.specs.Sound.{IsSound}
use Rattle.otp_model.specs.declared.change.Change.{Change}
use Rattle.otp_model.specs.declared.message.Commit.{Commit}
use Rattle.otp_model.specs.declared.run_name.RunName.{RunName}
use Rattle.otp_model.specs.declared.timetable.Call.{Call}
use Rattle.otp_model.specs.declared.timetable.Feed.{Feed}
use Rattle.otp_model.specs.declared.timetable.Run.{Run}
use Rattle.otp_model.proofs.RisingLemmas.{AreAbove, IsIn, Rises, rises}
use Rattle.change_buffer.specs.Commits.{IsCommitted, pending_of}
use Rattle.change_buffer.specs.Forms.{AreNamesChanged, AreResolved, are_same_calls, calls_before, calls_now, difference, differences, in_force, is_same_call, names_changed}
use Rattle.change_buffer.specs.declared.feed_state.FeedState.{FeedState}
use Rattle.change_buffer.proofs.CommitLemmas.{committed_after}
use Rattle.change_buffer.proofs.FormLemmas.{calls_committed, calls_settled, form_kept}
use Rattle.change_buffer.proofs.KnownLemmas.{change_name}
use Rattle.otp_model.proofs.JudgedLemmas.{by_test}
use Rattle.change_buffer.proofs.NamedLemmas.{AreApart, has_name, in_named, named, named_append, named_of, named_place, none_named, rising_apart, same_from, same_named, same_to, some_named}
use Rattle.change_buffer.proofs.ScheduleLemmas.{pairs_from_rises, sched_apart}
use Rattle.change_buffer.proofs.ShownLemmas.{apart_shown, calls_append, calls_shown, run_from_calls, run_name, shown_runs}

same_flags : (a b : Bool) → is_same_flag a b ≡ true → a ≡ b
same_flags true b h = sym h
same_flags false true h = absurd (let never : false ≡ true = h in cc)
same_flags false false h = refl

flag_itself : (a : Bool) → is_same_flag a a ≡ true
flag_itself true = refl
flag_itself false = refl

same_call_is : (a b : Call) → is_same_call a b ≡ true → a ≡ b
same_call_is a b h =
    let p = and_parts _ _ h in
    let q = and_parts _ _ p.1 in
    let r = and_parts _ _ q.1 in
    let s = and_parts _ _ r.1 in
    let t = and_parts _ _ s.1 in
    let stops = eqb-true a.stop b.stop p.0 in
    let seqs = eqb-true a.seq b.seq q.0 in
    let arrivals = (Decides-int_eq a.arrival b.arrival).0 r.0 in
    let departures = (Decides-int_eq a.departure b.departure).0 s.0 in
    let boards = same_flags a.board b.board t.0 in
    let alights = same_flags a.alight b.alight t.1 in
    λ i. record { stop = stops i; seq = seqs i; arrival = arrivals i; departure = departures i; board = boards i; alight = alights i }

call_itself : (a : Call) → is_same_call a a ≡ true
call_itself a =
    and_from _ _ (eq-eqb a.stop a.stop refl)
    (and_from _ _ (eq-eqb a.seq a.seq refl)
    (and_from _ _ ((Decides-int_eq a.arrival a.arrival).1 refl)
    (and_from _ _ ((Decides-int_eq a.departure a.departure).1 refl) (and_from _ _ (flag_itself a.board) (flag_itself a.alight)))))

pub call_decided : (a b : Call) → Decides (is_same_call a b) (a ≡ b)
call_decided a b = (same_call_is a b, λ e. subst (λ (c : Call). is_same_call a c ≡ true) e (call_itself a))

pub calls_decided : (a b : List Call) → Decides (pointwise is_same_call a b) (a ≡ b)
calls_decided a b = slice_eq-Decides call_decided a b (pointwise is_same_call a b) refl

pub same_calls_is : (a b : Option (List Call)) → are_same_calls a b ≡ true → a ≡ b
same_calls_is None None h = refl
same_calls_is None (Some others) h = absurd (let never : false ≡ true = h in cc)
same_calls_is (Some calls) None h = absurd (let never : false ≡ true = h in cc)
same_calls_is (Some calls) (Some others) h = ap (λ (cs : List Call). Some cs) ((calls_decided calls others).0 h)

same_calls_itself : (a : Option (List Call)) → are_same_calls a a ≡ true
same_calls_itself None = refl
same_calls_itself (Some calls) = (calls_decided calls calls).1 refl

pub other_calls : (a b : Option (List Call)) → are_same_calls a b ≡ false → a ≢ b
other_calls a b h = λ e. both_ways (are_same_calls a b) h (subst (λ (c : Option (List Call)). are_same_calls a c ≡ true) e (same_calls_itself a))

-- what differs among rising names

module _ (before now : RunName → Option (List Call)) where
  abbrev sifted : List RunName → List Change
  sifted names = flat_map (λ name. difference name (before name) (now name)) names

  above_sifted : (v : RunName) (names : List RunName) → AreAbove run_name_cmp v names → AreAbove run_name_cmp v (map change_name (sifted names))
  above_sifted v [] a = tt
  above_sifted v (name ∷ names) a =
      by_test (are_same_calls (before name) (now name)) (λ e. rw e (above_sifted v names a.1)) (λ e. rw e (a.0, above_sifted v names a.1))

  rises_sifted : (names : List RunName) → Rises run_name_cmp names → Rises run_name_cmp (map change_name (sifted names))
  rises_sifted [] r = tt
  rises_sifted (name ∷ names) r =
      by_test (are_same_calls (before name) (now name)) (λ e. rw e (rises_sifted names r.1)) (λ e. rw e (above_sifted name names r.0, rises_sifted names r.1))

  each_sifted : (P : Change → Type 0) → ((name : RunName) → before name ≢ now name → P (record { name = name; calls = now name })) → (names : List RunName) → All P (sifted names)
  each_sifted P each [] = All-nil P
  each_sifted P each (name ∷ names) =
      by_test (are_same_calls (before name) (now name))
      (λ e. rw e (each_sifted P each names))
      (λ e. rw e (All-cons P (record { name = name; calls = now name }) (sifted names) (each name (other_calls (before name) (now name) e)) (each_sifted P each names)))

  whole_sifted : (name : RunName) (names : List RunName) → IsIn name names → before name ≢ now name → has_name change_name name (sifted names) ≡ true
  whole_sifted name [] i differs = absurd i
  whole_sifted name (first ∷ names) (inl s) differs =
      by_test (are_same_calls (before first) (now first))
      (λ e. absurd (differs (subst (λ (n : RunName). before n ≡ now n) s (same_calls_is (before first) (now first) e))))
      (λ e. rw (e, same_to first name s) refl)
  whole_sifted name (first ∷ names) (inr i) differs =
      by_test (are_same_calls (before first) (now first))
      (λ e. rw e (whole_sifted name names i differs))
      (λ e. by_test (is_same_name first name) (λ f. rw (e, f) refl) (λ f. rw (e, f) (whole_sifted name names i differs)))

in_from_place : (name : RunName) (names : List RunName) (k : ℕ) → k < length names → get_or names k name ≡ name → IsIn name names
in_from_place name [] k l e = absurd (omega arith)
in_from_place name (first ∷ names) zero l e = inl e
in_from_place name (first ∷ names) (suc k) l e = inr (in_from_place name names k (omega arith) e)

place_from_in : (name : RunName) (names : List RunName) → IsIn name names → Contains names name
place_from_in name [] i = absurd i
place_from_in name (first ∷ names) (inl s) = (0, omega arith, s)
place_from_in name (first ∷ names) (inr i) = let later = place_from_in name names i in (suc later.0, omega (arith, later.1), later.2)

abbrev own : RunName → RunName
own name = name

own_names : (names : List RunName) → map own names ≡ names
own_names [] = refl
own_names (name ∷ names) = ap (λ (ns : List RunName). name ∷ ns) (own_names names)

module _ (feed : Feed) (states : List FeedState) (names : List RunName) (commit : Commit) (history : List Commit)
    (sound : IsSound feed) (are : AreResolved feed states) (all : AreNamesChanged states names) (published : commit.messages ≡ pending_of states) (committed : IsCommitted states history) where
  abbrev after : List Commit
  after = history ++ commit ∷ []

  before_is : calls_in (sched feed history) ≡ calls_before feed states
  before_is = λ i name. calls_committed feed states history sound are committed name i

  now_is : calls_in (sched feed after) ≡ calls_now feed states
  now_is = λ i name. calls_settled feed states after sound are (committed_after states history commit published committed) name i

  rising : Rises run_name_cmp names
  rising = subst (Rises run_name_cmp) (own_names names) (rises run_name_cmp own names all.rise)

  whole : (name : RunName) → calls_before feed states name ≢ calls_now feed states name → has_name change_name name (differences feed states names) ≡ true
  whole name differs =
      by_test (has_name own name names)
      (λ e.
      let found = some_named own name names e in
      whole_sifted (calls_before feed states) (calls_now feed states) name names (subst (IsIn name) (own_names names) (in_named own name names found.0 found.1)) differs)
      (λ e. absurd (differs (ap (λ o. in_force o (calls_in feed.runs name)) (form_kept states name (λ i. out e i)))))
    where
      out : has_name own name names ≡ false → IsIn name (names_changed states) → ⊥
      out e i =
          let place = place_from_in name (names_changed states) i in
          let inside : Contains names name = subst (Contains names) place.2 (all.whole place.0 name place.1) in
          lacks names (in_from_place name names inside.0 inside.1 inside.2) e
        where
          lacks : (ns : List RunName) → IsIn name ns → has_name own name ns ≡ false → ⊥
          lacks [] j h = j
          lacks (n ∷ ns) (inl s) h = let never : true ≡ false = rw (same_to n name s) at h in cc
          lacks (n ∷ ns) (inr j) h =
              by_test (is_same_name n name) (λ t. let never : true ≡ false = rw t at h in cc) (λ t. lacks ns j (rw t at h))

  -- the changes that a commit of the pending messages makes
  pub commit_differences : AreDifferences (sched feed history) (sched feed after) (differences feed states names)
  commit_differences = record {
    rise = pairs_from_rises change_name (differences feed states names) (rises_sifted (calls_before feed states) (calls_now feed states) names rising);
    calls = each_sifted (calls_before feed states) (calls_now feed states) (λ (change : Change). calls_in (sched feed after) change.name ≡ change.calls) (λ name differs. λ i. now_is i name) names;
    only = each_sifted (calls_before feed states) (calls_now feed states) (λ (change : Change). calls_in (sched feed history) change.name ≢ change.calls)
        (λ name differs e. differs (sym (λ i. before_is i name) ∙ e)) names;
    whole = λ name differs. whole name (λ e. differs ((λ i. before_is i name) ∙ e ∙ sym (λ i. now_is i name)));
  }

-- what changes make of a list of runs

abbrev calls_of : Change → Option (List Call)
calls_of change = change.calls

module _ (changes : List Change) where
  abbrev is_kept : Run → Bool
  is_kept run = not (is_changed changes run)

  kept_none : (name : RunName) (runs : List Run) → named run_name name runs ≡ None → named run_name name (filter is_kept runs) ≡ None
  kept_none name [] h = refl
  kept_none name (run ∷ runs) h =
      by_test (is_same_name run.name name)
      (λ e. absurd (let never : ◌≡◌ {A = Option Run} (Some run) None = rw e at h in cc))
      (λ e.
      by_test (is_changed changes run)
      (λ f. rw f (kept_none name runs (rw e at h)))
      (λ f. rw f (rw e (kept_none name runs (rw e at h)))))

  kept_same : (name : RunName) (runs : List Run) → has_name change_name name changes ≡ false → named run_name name (filter is_kept runs) ≡ named run_name name runs
  kept_same name [] h = refl
  kept_same name (run ∷ runs) h =
      by_test (is_changed changes run)
      (λ f.
      by_test (is_same_name run.name name)
      (λ e. absurd (both_ways (has_name change_name name changes) h (subst (λ (n : RunName). has_name change_name n changes ≡ true) (same_from run.name name e) f)))
      (λ e. rw f (rw e (kept_same name runs h))))
      (λ f.
      by_test (is_same_name run.name name)
      (λ e. rw f (rw e refl))
      (λ e. rw f (rw e (kept_same name runs h))))

  kept_gone : (name : RunName) (runs : List Run) → has_name change_name name changes ≡ true → named run_name name (filter is_kept runs) ≡ None
  kept_gone name [] h = refl
  kept_gone name (run ∷ runs) h =
      by_test (is_changed changes run)
      (λ f. rw f (kept_gone name runs h))
      (λ f.
      by_test (is_same_name run.name name)
      (λ e. absurd (both_ways (has_name change_name name changes) (subst (λ (n : RunName). has_name change_name n changes ≡ false) (same_from run.name name e) f) h))
      (λ e. rw f (rw e (kept_gone name runs h))))

  module _ (apart : AreApart change_name changes) where
    changed_none : (name : RunName) → has_name change_name name changes ≡ false → named run_name name (flat_map run_changed changes) ≡ None
    changed_none name h =
        let none : calls_in (shown_runs change_name calls_of changes) name ≡ None = calls_shown change_name calls_of name changes apart ∙ ap (λ o. option_map_or calls_of o None) (none_named change_name name changes h) in
        run_from_calls (shown_runs change_name calls_of changes) [] name none

    apart_with : (runs : List Run) → AreApart run_name runs → AreApart run_name (with_changes runs changes)
    apart_with [] a = apart_shown change_name calls_of changes apart
    apart_with (run ∷ runs) a =
        by_test (is_changed changes run)
        (λ f. rw f (apart_with runs a.1))
        (λ f. rw f (named_append run_name run.name (filter is_kept runs) (flat_map run_changed changes) ∙ rw (kept_none run.name runs a.0) (changed_none run.name f), apart_with runs a.1))

    -- the later schedule is the earlier one with the changes, up to order
    pub differences_make : (before now : List Run) → AreApart run_name before → AreApart run_name now → AreDifferences before now changes → IsPermutation now (with_changes before changes)
    differences_make before now a b are =
        same_named run_name now (with_changes before changes) b (apart_with before a) (λ name. run_from_calls now (with_changes before changes) name (at name))
      where
        at : (name : RunName) → calls_in now name ≡ calls_in (with_changes before changes) name
        at name =
            by_test (has_name change_name name changes)
            (λ e.
            let found = some_named change_name name changes e in
            let place = named_place change_name name changes found.0 found.1 in
            let calls : calls_in now found.0.name ≡ found.0.calls = subst (λ (c : Change). calls_in now c.name ≡ c.calls) place.2 (are.calls place.0 found.0 place.1) in
            subst (λ (n : RunName). calls_in now n ≡ found.0.calls) (named_of change_name name changes found.0 found.1) calls
            ∙ sym (calls_append (filter is_kept before) (flat_map run_changed changes) name
            ∙ ap (λ o. option_or (option_map (λ (run : Run). run.calls) o) (calls_in (flat_map run_changed changes) name)) (kept_gone name before e)
            ∙ calls_shown change_name calls_of name changes apart
            ∙ ap (λ o. option_map_or calls_of o None) found.1))
            (λ e.
            sym (calls_append (filter is_kept before) (flat_map run_changed changes) name
            ∙ (λ i. option_or (option_map (λ (run : Run). run.calls) (kept_same name before e i)) (option_map (λ (run : Run). run.calls) (changed_none name e i)))
            ∙ none_or (calls_in before name)
            ∙ kept e))
          where
            none_or : (o : Option (List Call)) → option_or o None ≡ o
            none_or None = refl
            none_or (Some calls) = refl

            kept : has_name change_name name changes ≡ false → calls_in before name ≡ calls_in now name
            kept e =
                by_test (are_same_calls (calls_in before name) (calls_in now name))
                (λ f. same_calls_is (calls_in before name) (calls_in now name) f)
                (λ f. absurd (both_ways (has_name change_name name changes) e (are.whole name (other_calls (calls_in before name) (calls_in now name) f))))

-- the schedule after is the one before with the changes, up to order
pub commit_makes : (feed : Feed) (history after : List Commit) (changes : List Change) → IsSound feed → AreDifferences (sched feed history) (sched feed after) changes
    → IsPermutation (sched feed after) (with_changes (sched feed history) changes)
commit_makes feed history after changes sound are =
    differences_make changes (rising_apart change_name changes (rises run_name_cmp change_name changes are.rise)) (sched feed history) (sched feed after) (sched_apart feed history sound) (sched_apart feed after sound) are
