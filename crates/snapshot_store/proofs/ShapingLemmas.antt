-- Shapes with the rows of one block more.
use Rattle.std.proofs.Common.{◌≡◌, ℕ, zero, suc, ◌+◌, ◌<◌, ◌≤◌, Bool, cond, ◌==◌, List, [], ◌∷◌, ◌++◌, length, take, get_or, set, Some, refl, sym, ap, subst, ◌∙◌, arith, inl, inr, add-one, get_or-set_same, get_or-set_other}
use Rattle.std.specs.List.{All, Contains, flat_map, range_with_len, slice_get}
use Rattle.std.proofs.lemmas.Bool.{cases_eq, cases_lt, eq-eqb, ne_eqb}
use Rattle.std.proofs.lemmas.List.{append-nil, append_assoc, get_or_append_left, get_or_default, get_or_push, length-set, length_push}
use Rattle.std.proofs.lemmas.List.Concat.{flat_map-append}
use Rattle.std.proofs.lemmas.List.Elements.{Contains-append_left, Contains-append_right, Contains-get_or}
use Rattle.std.proofs.lemmas.Option.{get_or_from_slice_get, slice_get_within}
use Rattle.otp_model.specs.Patterns.{Spot, pattern_of}
use Rattle.otp_model.specs.declared.timetable.Run.{Run}
use Rattle.trip_patterns.specs.FirstFit.{rows_of}
use Rattle.trip_patterns.specs.Lanes.{IsLane, LaneOf}
use Rattle.trip_patterns.specs.Shapes.{FitShapes, HaveShapes, IsShapeOf, ShapeOf, rows_before, rows_if}
use Rattle.trip_patterns.specs.Timetables.{IsBlock}
use Rattle.snapshot_store.specs.Places.{block_pattern}
use Rattle.snapshot_store.specs.Shaping.{AreShaped, IsJoined, IsMade, IsOfPattern, IsShaped, shape_in}
use Rattle.snapshot_store.proofs.IndexLemmas.{same_pattern}
use Rattle.snapshot_store.proofs.PlaceLemmas.{range_more}
use Rattle.snapshot_store.proofs.RowLemmas.{rows_more}

-- a shape that is lowered by one lane more
pub lowered_more : (pattern : List Spot) (lanes : List LaneOf) (n : ℕ) (lane : LaneOf) (runs : List Run) (shape after : ShapeOf) → n < length lanes → lane ≡ get_or lanes n lane
    → shape.pattern ≡ pattern → IsShapeOf pattern (runs ++ rows_of (take n lanes)) shape
    → ((more : List Run) → IsShapeOf shape.pattern more shape → IsShapeOf shape.pattern (more ++ lane.runs) after)
    → IsShapeOf pattern (runs ++ rows_of (take (n + 1) lanes)) after
lowered_more pattern lanes n lane runs shape after less read same is lower =
    let so_far : List Run = runs ++ rows_of (take n lanes) in
    let next : IsShapeOf pattern (so_far ++ lane.runs) after
    = subst (λ (p : List Spot). IsShapeOf p (so_far ++ lane.runs) after) same (lower so_far (subst (λ (p : List Spot). IsShapeOf p so_far shape) (sym same) is)) in
    subst (λ (rows : List Run). IsShapeOf pattern rows after)
    (append_assoc runs (rows_of (take n lanes)) lane.runs ∙ ap (λ (rows : List Run). runs ++ rows) (sym (rows_more lanes n lane less read))) next

-- a shape that an index reads is lowered
pub joined_at : (pattern : List Spot) (rows : List Run) (shapes read : List ShapeOf) (number : ℕ) (old new : ShapeOf) → read ≡ shapes → number < length read
    → (shape_in read number).pattern ≡ pattern → old ≡ get_or shapes number old
    → ((runs : List Run) → IsShapeOf old.pattern runs old → IsShapeOf old.pattern (runs ++ rows) new) → IsJoined pattern rows shapes (set shapes number new) number
joined_at pattern rows shapes read number old new same less of at lower =
    let within : number < length shapes = subst (λ (xs : List ShapeOf). number < length xs) same less in
    let is : (shape_in shapes number).pattern ≡ pattern = subst (λ (xs : List ShapeOf). (shape_in xs number).pattern ≡ pattern) same of in
    let here : shape_in shapes number ≡ old = get_or_default shapes number (record { pattern = []; hops = []; dwells = [] }) old within ∙ sym at in
    let own : old.pattern ≡ pattern = ap (λ (s : ShapeOf). s.pattern) (sym here) ∙ is in
    record {
      within = within;
      pattern_is = is;
      shape = new;
      after_is = refl;
      joined = λ runs shape.
          subst (λ (p : List Spot). IsShapeOf p (runs ++ rows) new) own
          (lower runs (subst (λ (p : List Spot). IsShapeOf p runs old) (sym own) (subst (λ (s : ShapeOf). IsShapeOf pattern runs s) here shape)));
    }

-- a shape that is made and lowered
pub made_for : (pattern : List Spot) (rows : List Run) (before after : List ShapeOf) (empty shape : ShapeOf) → IsShapeOf pattern [] empty
    → ((runs : List Run) → IsShapeOf empty.pattern runs empty → IsShapeOf empty.pattern (runs ++ rows) shape) → after ≡ before ++ shape ∷ []
    → IsMade pattern rows before after (length before)
made_for pattern rows before after empty shape is lower more = record {
  number_is = refl;
  shape = shape;
  after_is = more;
  made = subst (λ (p : List Spot). IsShapeOf p rows shape) is.pattern_is (lower [] (subst (λ (p : List Spot). IsShapeOf p [] empty) (sym is.pattern_is) is));
}

-- the shapes before and after the rows of a block came to one of them; each was that of its rows
record IsNext (covered : ℕ → List Run) (pattern : List Spot) (rows : List Run) (before after : List ShapeOf) (number : ℕ) : Type 0 where
  within : number < length after
  grown : length before ≤ length after
  kept : (n : ℕ) → n < length before → (n < length after) × ((shape_in after n).pattern ≡ (shape_in before n).pattern)
  here : IsShapeOf pattern (covered number ++ rows) (shape_in after number)
  others : (n : ℕ) → n < length after → (n ≡ number → ⊥) → (n < length before) × (shape_in after n ≡ shape_in before n)

abbrev AreCovered : (ℕ → List Run) → List ShapeOf → Type 0
AreCovered covered shapes = (n : ℕ) → n < length shapes → IsShapeOf (shape_in shapes n).pattern (covered n) (shape_in shapes n)

next_joined : (covered : ℕ → List Run) (pattern : List Spot) (rows : List Run) (before after : List ShapeOf) (number : ℕ) → AreCovered covered before
    → IsJoined pattern rows before after number → IsNext covered pattern rows before after number
next_joined covered pattern rows before after number are is =
    let none : ShapeOf = record { pattern = []; hops = []; dwells = [] } in
    let long : length after ≡ length before = ap length is.after_is ∙ length-set before number is.shape in
    let at : shape_in after number ≡ is.shape = ap (λ (xs : List ShapeOf). shape_in xs number) is.after_is ∙ get_or-set_same before number is.shape none is.within in
    let own : IsShapeOf pattern (covered number) (shape_in before number)
    = subst (λ (p : List Spot). IsShapeOf p (covered number) (shape_in before number)) is.pattern_is (are number is.within) in
    let made = is.joined (covered number) own in
    let other : (n : ℕ) → (n ≡ number → ⊥) → shape_in after n ≡ shape_in before n
    = λ n ne. ap (λ (xs : List ShapeOf). shape_in xs n) is.after_is ∙ get_or-set_other before number n is.shape none ne in
    record {
      within = (let less = is.within in omega arith);
      grown = omega arith;
      kept = λ n less. (
        (omega arith),
        elim (cases_eq n number) [
          | inl same ↦
              subst (λ (k : ℕ). (shape_in after k).pattern ≡ (shape_in before k).pattern) (sym same)
              (ap (λ (s : ShapeOf). s.pattern) at ∙ made.pattern_is ∙ sym is.pattern_is)
          | inr ne ↦ ap (λ (s : ShapeOf). s.pattern) (other n ne)
        ],
      );
      here = subst (λ (s : ShapeOf). IsShapeOf pattern (covered number ++ rows) s) (sym at) made;
      others = λ n less ne. ((omega arith), other n ne);
    }

next_made : (covered : ℕ → List Run) (pattern : List Spot) (rows : List Run) (before after : List ShapeOf) (number : ℕ)
    → ((n : ℕ) → length before ≤ n → covered n ≡ []) → IsMade pattern rows before after number → IsNext covered pattern rows before after number
next_made covered pattern rows before after number beyond is =
    let none : ShapeOf = record { pattern = []; hops = []; dwells = [] } in
    let long : length after ≡ length before + 1 = ap length is.after_is ∙ length_push before is.shape in
    let at : shape_in after number ≡ is.shape
    = ap (λ (xs : List ShapeOf). shape_in xs number) is.after_is ∙ get_or_push before is.shape none number (sym is.number_is) in
    let old : (n : ℕ) → n < length before → shape_in after n ≡ shape_in before n
    = λ n less. ap (λ (xs : List ShapeOf). shape_in xs n) is.after_is ∙ get_or_append_left before (is.shape ∷ []) none n less in
    let nothing : covered number ≡ [] = beyond number (let e = is.number_is in omega arith) in
    record {
      within = (let e = is.number_is in omega arith);
      grown = omega arith;
      kept = λ n less. ((omega arith), ap (λ (s : ShapeOf). s.pattern) (old n less));
      here = subst (λ (s : ShapeOf). IsShapeOf pattern (covered number ++ rows) s) (sym at)
          (subst (λ (xs : List Run). IsShapeOf pattern (xs ++ rows) is.shape) (sym nothing) is.made);
      others = λ n less ne.
          let under : n < length before = (let e = is.number_is in omega arith) in
          (under, old n under);
    }

-- the rows of one block more
rows_before_more : (blocks : List (List LaneOf)) (f : ℕ → ℕ) (n count : ℕ) → rows_before blocks f n (count + 1) ≡ rows_before blocks f n count ++ rows_if blocks f n count
rows_before_more blocks f n count =
    ap (flat_map (rows_if blocks f n)) (range_more count) ∙ flat_map-append (rows_if blocks f n) (range_with_len 0 count) (count ∷ [])
    ∙ ap (λ (xs : List Run). rows_before blocks f n count ++ xs) (append-nil (rows_if blocks f n count))

same_before : (blocks : List (List LaneOf)) (f g : ℕ → ℕ) (n count : ℕ) → ((b : ℕ) → b < count → f b ≡ g b) → rows_before blocks f n count ≡ rows_before blocks g n count
same_before blocks f g n zero same = refl
same_before blocks f g n (suc count) same =
    let step : rows_before blocks f n (count + 1) ≡ rows_before blocks g n (count + 1)
    = rows_before_more blocks f n count
    ∙ (λ i. same_before blocks f g n count (λ b less. same b (omega arith)) i ++ cond (same count (omega arith) i == n) (rows_of (get_or blocks count [])) [])
    ∙ sym (rows_before_more blocks g n count) in
    subst (λ (k : ℕ). rows_before blocks f n k ≡ rows_before blocks g n k) (add-one count) step

rows_next : (blocks : List (List LaneOf)) (numbers numbers' : List ℕ) (m n count : ℕ) → length numbers ≡ count → numbers' ≡ numbers ++ m ∷ []
    → rows_before blocks (λ b. get_or numbers' b 0) n (count + 1) ≡ rows_before blocks (λ b. get_or numbers b 0) n count ++ cond (m == n) (rows_of (get_or blocks count [])) []
rows_next blocks numbers numbers' m n count long more =
    rows_before_more blocks (λ b. get_or numbers' b 0) n count
    ∙ ap (λ (xs : List Run). xs ++ rows_if blocks (λ b. get_or numbers' b 0) n count)
    (same_before blocks (λ b. get_or numbers' b 0) (λ b. get_or numbers b 0) n count
    (λ b less. ap (λ (xs : List ℕ). get_or xs b 0) more ∙ get_or_append_left numbers (m ∷ []) 0 b (omega arith)))
    ∙ ap (λ (k : ℕ). rows_before blocks (λ b. get_or numbers b 0) n count ++ cond (k == n) (rows_of (get_or blocks count [])) [])
    (ap (λ (xs : List ℕ). get_or xs count 0) more ∙ get_or_push numbers m 0 count long)

shaped_next : (blocks : List (List LaneOf)) (numbers numbers' : List ℕ) (count m : ℕ) (pattern : List Spot) (before after : List ShapeOf) → AreShaped blocks numbers count before
    → ((lane : LaneOf) → Contains (get_or blocks count []) lane → lane.pattern ≡ pattern) → numbers' ≡ numbers ++ m ∷ []
    → IsNext (λ n. rows_before blocks (λ b. get_or numbers b 0) n count) pattern (rows_of (get_or blocks count [])) before after m → AreShaped blocks numbers' (count + 1) after
shaped_next blocks numbers numbers' count m pattern before after are of more next =
    let long = are.numbered in
    let lanes : List LaneOf = get_or blocks count [] in
    let covered : ℕ → List Run = λ n. rows_before blocks (λ b. get_or numbers b 0) n count in
    let last : get_or numbers' count 0 ≡ m = ap (λ (xs : List ℕ). get_or xs count 0) more ∙ get_or_push numbers m 0 count long in
    let rows : (n : ℕ) → rows_before blocks (λ b. get_or numbers' b 0) n (count + 1) ≡ covered n ++ cond (m == n) (rows_of lanes) []
    = λ n. rows_next blocks numbers numbers' m n count long more in
    let apart : (n : ℕ) → (n ≡ m → ⊥) → rows_before blocks (λ b. get_or numbers' b 0) n (count + 1) ≡ covered n
    = λ n ne. rows n ∙ ap (λ (b : Bool). covered n ++ cond b (rows_of lanes) []) (ne_eqb m n (λ e. ne (sym e))) ∙ append-nil (covered n) in
    record {
      numbered = ap length more ∙ length_push numbers m ∙ ap (λ (k : ℕ). k + 1) long;
      each = λ b less. elim (cases_lt b count) [
        | inl under ↦
            let same : get_or numbers' b 0 ≡ get_or numbers b 0
            = ap (λ (xs : List ℕ). get_or xs b 0) more ∙ get_or_append_left numbers (m ∷ []) 0 b (omega arith) in
            let was = are.each b under in
            let kept = next.kept (get_or numbers b 0) was.within in
            subst (λ (k : ℕ). IsOfPattern after k (get_or blocks b [])) (sym same)
            (record { within = kept.0; pattern = λ lane among. was.pattern lane among ∙ sym kept.1 })
        | inr over ↦
            let here : count ≡ b = omega arith in
            subst (λ (k : ℕ). IsOfPattern after (get_or numbers' k 0) (get_or blocks k [])) here
            (subst (λ (k : ℕ). IsOfPattern after k lanes) (sym last) (record { within = next.within; pattern = λ lane among. of lane among ∙ sym next.here.pattern_is }))
      ];
      least = λ n less. elim (cases_eq n m) [
        | inl same ↦
            let joined : rows_before blocks (λ b. get_or numbers' b 0) m (count + 1) ≡ covered m ++ rows_of lanes
            = rows m ∙ ap (λ (b : Bool). covered m ++ cond b (rows_of lanes) []) (eq-eqb m m refl) in
            subst (λ (k : ℕ). IsShapeOf (shape_in after k).pattern (rows_before blocks (λ b. get_or numbers' b 0) k (count + 1)) (shape_in after k)) (sym same)
            (subst (λ (xs : List Run). IsShapeOf (shape_in after m).pattern xs (shape_in after m)) (sym joined)
            (subst (λ (p : List Spot). IsShapeOf p (covered m ++ rows_of lanes) (shape_in after m)) (sym next.here.pattern_is) next.here))
        | inr ne ↦
            let other = next.others n less ne in
            subst (λ (xs : List Run). IsShapeOf (shape_in after n).pattern xs (shape_in after n)) (sym (apart n ne))
            (subst (λ (s : ShapeOf). IsShapeOf s.pattern (covered n) s) (sym other.1) (are.least n other.0))
      ];
      beyond = λ n over.
          let ne : n ≡ m → ⊥ = (λ e. (let w = next.within in omega arith)) in
          apart n ne ∙ are.beyond n (let g = next.grown in omega arith);
    }

pub shaped_more : (blocks : List (List LaneOf)) (numbers numbers' : List ℕ) (count m : ℕ) (pattern : List Spot) (lanes : List LaneOf) (before after : List ShapeOf)
    → AreShaped blocks numbers count before → All IsBlock blocks → count < length blocks → lanes ≡ get_or blocks count [] → pattern ≡ block_pattern lanes
    → IsShaped pattern (rows_of lanes) before after m → numbers' ≡ numbers ++ m ∷ [] → AreShaped blocks numbers' (count + 1) after
shaped_more blocks numbers numbers' count m pattern lanes before after are blocks-are less at of is more =
    let covered : ℕ → List Run = λ n. rows_before blocks (λ b. get_or numbers b 0) n count in
    let next : IsNext covered pattern (rows_of lanes) before after m
    = elim is [
      | inl joined ↦ next_joined covered pattern (rows_of lanes) before after m are.least joined
      | inr made ↦ next_made covered pattern (rows_of lanes) before after m are.beyond made
    ] in
    let patterns : (lane : LaneOf) → Contains (get_or blocks count []) lane → lane.pattern ≡ pattern
    = λ lane among. same_pattern (get_or blocks count []) lane (blocks-are count [] less) among ∙ sym (of ∙ ap block_pattern at) in
    shaped_next blocks numbers numbers' count m pattern before after are patterns more
    (subst (λ (ls : List LaneOf). IsNext covered pattern (rows_of ls) before after m) at next)

-- the lanes of a block have its pattern
pub of_pattern : (pattern : List Spot) (lanes : List LaneOf) → IsBlock lanes → pattern ≡ block_pattern lanes → All (λ (lane : LaneOf). lane.pattern ≡ pattern) lanes
of_pattern pattern lanes is of = λ k d less. same_pattern lanes (get_or lanes k d) is (Contains-get_or lanes k d less) ∙ sym of

flat_contains : {X A : Type 0} (f : X → List A) (xs : List X) (x : X) (y : A) → Contains xs x → Contains (f x) y → Contains (flat_map f xs) y
flat_contains f [] x y (k, less, same) among = absurd (omega arith)
flat_contains {X} f (z ∷ xs) x y (zero, less, same) among = Contains-append_left (f z) (flat_map f xs) y (subst (λ (w : X). Contains (f w) y) (sym same) among)
flat_contains f (z ∷ xs) x y (suc k, less, same) among = Contains-append_right (f z) (flat_map f xs) y (flat_contains f xs x y (k, omega arith, same) among)

-- the rows of a block are among those of its shape
among_rows : (blocks : List (List LaneOf)) (f : ℕ → ℕ) (b count : ℕ) (run : Run) → b < count → Contains (rows_of (get_or blocks b [])) run → Contains (rows_before blocks f (f b) count) run
among_rows blocks f b zero run less among = absurd (omega arith)
among_rows blocks f b (suc count) run less among =
    let before : List Run = rows_before blocks f (f b) count in
    let all : rows_before blocks f (f b) (suc count) ≡ before ++ rows_if blocks f (f b) count
    = subst (λ (k : ℕ). rows_before blocks f (f b) k ≡ before ++ rows_if blocks f (f b) count) (add-one count) (rows_before_more blocks f (f b) count) in
    subst (λ (xs : List Run). Contains xs run) (sym all)
    (elim (cases_lt b count) [
      | inl under ↦ Contains-append_left before (rows_if blocks f (f b) count) run (among_rows blocks f b count run under among)
      | inr over ↦
          let here : b ≡ count = omega arith in
          let own : rows_if blocks f (f b) count ≡ rows_of (get_or blocks b [])
          = subst (λ (k : ℕ). rows_if blocks f (f b) k ≡ rows_of (get_or blocks b [])) here
          (ap (λ (t : Bool). cond t (rows_of (get_or blocks b [])) []) (eq-eqb (f b) (f b) refl)) in
          Contains-append_right before (rows_if blocks f (f b) count) run (subst (λ (xs : List Run). Contains xs run) (sym own) among)
    ])

-- a row of a lane has the lane's pattern
row_pattern : (lane : LaneOf) (run : Run) → IsLane lane → Contains lane.runs run → pattern_of run ≡ lane.pattern
row_pattern lane run is (k, less, same) = subst (λ (r : Run). pattern_of r ≡ lane.pattern) same (is.pattern k run less)

pub have_shapes : (blocks : List (List LaneOf)) (numbers : List ℕ) (count : ℕ) (shapes : List ShapeOf) → FitShapes → All IsBlock blocks → count ≡ length blocks
    → AreShaped blocks numbers count shapes → HaveShapes blocks shapes (λ b. get_or numbers b 0)
have_shapes blocks numbers count shapes fit blocks-are whole are =
    let number : ℕ → ℕ = λ b. get_or numbers b 0 in
    let none : ShapeOf = record { pattern = []; hops = []; dwells = [] } in
    let rows : ℕ → List Run = λ n. rows_before blocks number n count in
    record {
      each = λ b lanes at.
          let less = slice_get_within blocks b lanes at in
          let lanes-is : get_or blocks b [] ≡ lanes = get_or_from_slice_get blocks b lanes [] at in
          let of = are.each b (omega arith) in
          let pattern : (shape : ShapeOf) (lane : LaneOf) → slice_get shapes (number b) ≡ Some shape → Contains lanes lane → lane.pattern ≡ shape.pattern
          = λ shape lane shape-at in-lanes.
          of.pattern lane (subst (λ (ls : List LaneOf). Contains ls lane) (sym lanes-is) in-lanes)
          ∙ ap (λ (s : ShapeOf). s.pattern) (get_or_from_slice_get shapes (number b) shape none shape-at) in
          record {
            within = of.within;
            pattern = pattern;
            fits = λ shape lane run shape-at in-lanes in-runs timely.
                let here : shape_in shapes (number b) ≡ shape = get_or_from_slice_get shapes (number b) shape none shape-at in
                let lane-is : IsLane lane = subst IsLane in-lanes.2 ((subst IsBlock lanes-is (blocks-are b [] less)).lanes_are in-lanes.0 lane in-lanes.1) in
                let same : pattern_of run ≡ shape.pattern = row_pattern lane run lane-is in-runs ∙ pattern shape lane shape-at in-lanes in
                let own : Contains (rows_of (get_or blocks b [])) run
                = subst (λ (ls : List LaneOf). Contains (rows_of ls) run) (sym lanes-is) (flat_contains (λ (l : LaneOf). l.runs) lanes lane run in-lanes in-runs) in
                let is : IsShapeOf shape.pattern (rows (number b)) shape
                = subst (λ (s : ShapeOf). IsShapeOf s.pattern (rows (number b)) s) here (are.least (number b) of.within) in
                fit shape.pattern (rows (number b)) shape run is (among_rows blocks number b count run (omega arith) own) same timely;
          };
      least = λ n shape at.
          let less = slice_get_within shapes n shape at in
          let here : shape_in shapes n ≡ shape = get_or_from_slice_get shapes n shape none at in
          subst (λ (k : ℕ). IsShapeOf shape.pattern (rows_before blocks number n k) shape) whole
          (subst (λ (s : ShapeOf). IsShapeOf s.pattern (rows n) s) here (are.least n less));
    }
