-- The runs of rows, and those that changes leave.
use Rattle.std.proofs.Common.{◌≡◌, ℕ, zero, suc, ◌+◌, ◌<◌, ◌≤◌, List, [], ◌∷◌, ◌++◌, length, map, take, get_or, Some, true, false, cond, not, refl, sym, ap, subst, ◌∙◌, arith}
use Rattle.std.specs.List.{flat_map, slice_get}
use Rattle.std.proofs.lemmas.List.{append-nil, append_assoc, get_or-map, length-map, map_more, take_all, take_more}
use Rattle.std.proofs.lemmas.List.Concat.{flat_map-append}
use Rattle.std.proofs.lemmas.List.Elements.{filter-append, filter_more}
use Rattle.std.proofs.lemmas.Option.{get_or_from_slice_get, same_Some, slice_get-get_or, slice_get_within}
use Rattle.otp_model.specs.Patterns.{is_changed, spot_of}
use Rattle.otp_model.specs.declared.change.Change.{Change}
use Rattle.otp_model.specs.declared.timetable.Call.{Call}
use Rattle.otp_model.specs.declared.timetable.Run.{Run}
use Rattle.trip_patterns.specs.FirstFit.{rows_of}
use Rattle.trip_patterns.specs.Lanes.{IsCallAt, IsLane, LaneOf}
use Rattle.snapshot_store.specs.Changing.{is_kept, kept}

-- the calls of a row with one more
pub calls_more : (runs : List Run) (row n : ℕ) (run : Run) (call : Call) (before after : List Call) → slice_get runs row ≡ Some run → IsCallAt runs row n call
    → before ≡ take n run.calls → after ≡ before ++ call ∷ [] → after ≡ take (n + 1) run.calls
calls_more runs row n run call before after at is so more =
    let same : is.run ≡ run = same_Some is.run run (sym is.run_is ∙ at) in
    let here : slice_get run.calls n ≡ Some call = subst (λ (r : Run). slice_get r.calls n ≡ Some call) same is.call_is in
    more ∙ ap (λ (xs : List Call). xs ++ call ∷ []) so
    ∙ sym (take_more run.calls n call (slice_get_within run.calls n call here) ∙ ap (λ (c : Call). take n run.calls ++ c ∷ []) (get_or_from_slice_get run.calls n call call here))

-- a row's run from its name and calls
pub run_is : (lane : LaneOf) (row n : ℕ) (run : Run) → IsLane lane → row < length lane.runs → length lane.pattern ≤ n
    → ((other : Run) → slice_get lane.runs row ≡ Some other → run.name ≡ other.name)
    → ((other : Run) → slice_get lane.runs row ≡ Some other → run.calls ≡ take n other.calls) → slice_get lane.runs row ≡ Some run
run_is lane row n run is less whole name calls =
    let other : Run = get_or lane.runs row run in
    let at : slice_get lane.runs row ≡ Some other = slice_get-get_or lane.runs row run less in
    let wide : length other.calls ≡ length lane.pattern = sym (length-map other.calls spot_of) ∙ ap length (is.pattern row run less) in
    let names = name other at in
    let all = calls other at ∙ take_all n other.calls (omega arith) in
    at ∙ ap (λ (r : Run). Some r) (sym (let same : run ≡ other = (λ i. record { name = names i; calls = all i }) in same))

-- one row more, which is kept or not
pub kept_more : (changes : List Change) (runs : List Run) (n : ℕ) (run : Run) → slice_get runs n ≡ Some run
    → kept changes (take (n + 1) runs) ≡ kept changes (take n runs) ++ cond (is_kept changes run) (run ∷ []) []
kept_more changes runs n run at =
    filter_more (is_kept changes) runs n run (slice_get_within runs n run at)
    ∙ ap (λ (r : Run). kept changes (take n runs) ++ cond (is_kept changes r) (r ∷ []) []) (get_or_from_slice_get runs n run run at)

pub kept_one : (changes : List Change) (runs : List Run) (n : ℕ) (run : Run) (start before after : List Run) → slice_get runs n ≡ Some run → is_changed changes run ≡ false
    → before ≡ start ++ kept changes (take n runs) → after ≡ before ++ run ∷ [] → after ≡ start ++ kept changes (take (n + 1) runs)
kept_one changes runs n run start before after at other so more =
    more ∙ ap (λ (xs : List Run). xs ++ run ∷ []) so ∙ append_assoc start (kept changes (take n runs)) (run ∷ [])
    ∙ ap (λ b. start ++ (kept changes (take n runs) ++ cond (not b) (run ∷ []) [])) (sym other)
    ∙ ap (λ (xs : List Run). start ++ xs) (sym (kept_more changes runs n run at))

pub kept_none : (changes : List Change) (runs : List Run) (n : ℕ) (run : Run) (start before : List Run) → slice_get runs n ≡ Some run → is_changed changes run ≡ true
    → before ≡ start ++ kept changes (take n runs) → before ≡ start ++ kept changes (take (n + 1) runs)
kept_none changes runs n run start before at is so =
    so ∙ ap (λ (xs : List Run). start ++ xs) (sym (append-nil (kept changes (take n runs)))
    ∙ ap (λ b. kept changes (take n runs) ++ cond (not b) (run ∷ []) []) (sym is) ∙ sym (kept_more changes runs n run at))

-- the rows of one lane more
pub rows_more : (lanes : List LaneOf) (n : ℕ) (lane : LaneOf) → n < length lanes → lane ≡ get_or lanes n lane → rows_of (take (n + 1) lanes) ≡ rows_of (take n lanes) ++ lane.runs
rows_more lanes n lane less read =
    ap rows_of (take_more lanes n lane less) ∙ flat_map-append (λ (l : LaneOf). l.runs) (take n lanes) (get_or lanes n lane ∷ [])
    ∙ ap (λ (xs : List Run). rows_of (take n lanes) ++ xs) (append-nil (get_or lanes n lane).runs ∙ ap (λ (l : LaneOf). l.runs) (sym read))

-- those of them that are kept
pub kept_lane : (changes : List Change) (lanes : List LaneOf) (n : ℕ) (lane : LaneOf) (start before after : List Run) → n < length lanes → lane ≡ get_or lanes n lane
    → before ≡ start ++ kept changes (rows_of (take n lanes)) → after ≡ before ++ kept changes lane.runs → after ≡ start ++ kept changes (rows_of (take (n + 1) lanes))
kept_lane changes lanes n lane start before after less read so more =
    more ∙ ap (λ (xs : List Run). xs ++ kept changes lane.runs) so ∙ append_assoc start (kept changes (rows_of (take n lanes))) (kept changes lane.runs)
    ∙ ap (λ (xs : List Run). start ++ xs)
    (sym (ap (kept changes) (rows_more lanes n lane less read) ∙ filter-append (is_kept changes) (rows_of (take n lanes)) lane.runs))

-- no change leaves all runs
pub kept_all : (runs : List Run) → kept [] runs ≡ runs
kept_all [] = refl
kept_all (run ∷ runs) = ap (λ (xs : List Run). run ∷ xs) (kept_all runs)

pub found : (runs : List Run) (row : ℕ) → row < length runs → (run : Run) × (slice_get runs row ≡ Some run)
found [] row less = absurd (omega arith)
found (run ∷ runs) zero less = (run, refl)
found (run ∷ runs) (suc row) less = found runs row (omega arith)

-- all runs of one block more
pub block_more : {B : Type 0} (value : B → List LaneOf) (blocks : List B) (n : ℕ) (block : B) (lanes : List LaneOf) (before after : List Run) → n < length blocks → block ≡ get_or blocks n block
    → lanes ≡ value block → before ≡ flat_map rows_of (map value (take n blocks)) → after ≡ before ++ kept [] (rows_of lanes) → after ≡ flat_map rows_of (map value (take (n + 1) blocks))
block_more value blocks n block lanes before after less read are so more =
    let rows : kept [] (rows_of lanes) ≡ rows_of (value (get_or blocks n block)) = kept_all (rows_of lanes) ∙ ap rows_of are ∙ ap (λ b. rows_of (value b)) read in
    more ∙ (λ i. so i ++ rows i)
    ∙ sym (ap (flat_map rows_of) (map_more value blocks n block less) ∙ flat_map-append rows_of (map value (take n blocks)) (value (get_or blocks n block) ∷ [])
    ∙ ap (λ (xs : List Run). flat_map rows_of (map value (take n blocks)) ++ xs) (append-nil (rows_of (value (get_or blocks n block)))))

-- the block that an index reads
pub block_read : {B : Type 0} (value : B → List LaneOf) (blocks : List B) (n : ℕ) (block : B) → n < length blocks → block ≡ get_or blocks n block → value block ≡ get_or (map value blocks) n []
block_read value blocks n block less read = ap value read ∙ sym (get_or-map value blocks n block [] less)
