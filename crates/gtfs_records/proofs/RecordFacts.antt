-- Each record takes bytes from a text, so that counting up to its length finds them all.
use Rattle.std.proofs.Common.{◌≡◌, ℕ, zero, suc, ◌+◌, ◌≤◌, ◌<◌, List, [], ◌∷◌, ◌++◌, length, Option, Some, None, Bor, Bool, true, false, cond, refl, ap, arith, add-one}
use Rattle.std.specs.Prelude.{◌==◌, ◌&&◌}
use Rattle.csv.specs.Machine.{Read, after_end, ends_at_end, ends_with, field_after, fields_after, in_field, is_byte, is_end, next_record, start_field, start_record, step}
use Rattle.csv.specs.Reading.{ReadRecord, Reached, default_config, reader_state, records_from, records_next}
use Rattle.csv.specs.declared.reader.Reader.{Reader}
use Rattle.csv.proofs.ReadFacts.{rows-end, rows-more}
use Rattle.gtfs_records.specs.Records.{IsBetween, left_of, unread}
use Rattle.csv.specs.declared.parser.Config.{Config}
use Rattle.csv.specs.declared.parser.Terminator.{Terminator}
use Rattle.csv.specs.declared.parser.Terminator.TheVariants as term
use Rattle.csv.specs.declared.parser.State.{State}
use Rattle.csv.specs.declared.parser.State.TheVariants as st
use Rattle.csv.specs.declared.parser.Action.{Action}
use Rattle.csv.specs.declared.parser.Action.TheVariants as act

-- a state in which the end of the text ends no record follows, where a record ends
abbrev Rests : State × Action → Type 0
Rests q = is_end q.1 ≡ true → ends_at_end q.0 ≡ false

either : (b : Bool) (x y : State × Action) → Rests x → Rests y → Rests (cond b x y)
either true x y p q = p
either false x y p q = q

-- an action that ends no record
goes : (s : State) (a : Action) → is_end a ≡ false → Rests (s, a)
goes s a e h = cc (e, h)

cr_or_lf : (b : Bool) → ends_at_end (cond b st.AfterCr st.StartRecord) ≡ false
cr_or_lf true = refl
cr_or_lf false = refl

after_end_rests : (t : Terminator) (c : ℕ) → ends_at_end (after_end t c) ≡ false
after_end_rests term.CRLF c = cr_or_lf (c == 13)
after_end_rests (term.Any t) c = refl

in_field_rests : (cfg : Config) (c : ℕ) → Rests (in_field cfg c)
in_field_rests cfg c =
    let ended : State × Action = (after_end cfg.terminator c, act.EndRecord) in
    let copied : State × Action = (st.InField, act.Copy) in
    let later = either (ends_with cfg.terminator c) ended copied (λ _. after_end_rests cfg.terminator c) (goes st.InField act.Copy refl) in
    either (c == cfg.delimiter) (st.StartField, act.EndField) (cond (ends_with cfg.terminator c) ended copied) (goes st.StartField act.EndField refl) later

start_field_rests : (cfg : Config) (c : ℕ) → Rests (start_field cfg c)
start_field_rests cfg c = either (cfg.quoting && (c == cfg.quote)) (st.InQuoted, act.Skip) (in_field cfg c) (goes st.InQuoted act.Skip refl) (in_field_rests cfg c)

start_record_rests : (cfg : Config) (c : ℕ) → Rests (start_record cfg c)
start_record_rests cfg c =
    let later = either (is_byte cfg.comment c) (st.InComment, act.Skip) (start_field cfg c) (goes st.InComment act.Skip refl) (start_field_rests cfg c) in
    either (ends_with cfg.terminator c) (st.StartRecord, act.Skip) (cond (is_byte cfg.comment c) (st.InComment, act.Skip) (start_field cfg c)) (goes st.StartRecord act.Skip refl) later

step_rests : (cfg : Config) (s : State) (c : ℕ) → Rests (step cfg s c)
step_rests cfg st.StartRecord c = start_record_rests cfg c
step_rests cfg st.StartField c = start_field_rests cfg c
step_rests cfg st.InField c = in_field_rests cfg c
step_rests cfg st.InQuoted c =
    let later = either (cfg.quoting && is_byte cfg.escape c) (st.InEscape, act.Skip) (st.InQuoted, act.Copy) (goes st.InEscape act.Skip refl) (goes st.InQuoted act.Copy refl) in
    either (cfg.quoting && (c == cfg.quote)) (st.AfterQuote, act.Skip) (cond (cfg.quoting && is_byte cfg.escape c) (st.InEscape, act.Skip) (st.InQuoted, act.Copy)) (goes st.AfterQuote act.Skip refl) later
step_rests cfg st.InEscape c = goes st.InQuoted act.Copy refl
step_rests cfg st.AfterQuote c = either (cfg.quoting && cfg.double_quote && (c == cfg.quote)) (st.InQuoted, act.Copy) (in_field cfg c) (goes st.InQuoted act.Copy refl) (in_field_rests cfg c)
step_rests cfg st.InComment c = either (c == 10) (st.StartRecord, act.Skip) (st.InComment, act.Skip) (goes st.StartRecord act.Skip refl) (goes st.InComment act.Skip refl)
step_rests cfg st.AfterCr c = either (c == 10) (st.StartRecord, act.Skip) (start_record cfg c) (goes st.StartRecord act.Skip refl) (start_record_rests cfg c)

-- what the next record leaves: a state between two records, and fewer bytes
pub record Leaves (s : State) (bytes : List ℕ) (q : Read) : Type 0 where
  pub state : ends_at_end q.1 ≡ false
  pub fewer : length q.2 + cond (ends_at_end s) 0 1 ≤ length bytes

at_most_one : (b : Bool) → cond b 0 1 ≤ 1
at_most_one true = omega arith
at_most_one false = omega arith

pub next_record-leaves : (cfg : Config) (s : State) (fields : List (List ℕ)) (field bytes : List ℕ) (q : Read) → next_record cfg s fields field bytes ≡ Some q → Leaves s bytes q
unfolding next_record
next_record-leaves cfg s fields field [] q e = at_end (ends_at_end s) refl e
  where
    at_end : (b : Bool) → ends_at_end s ≡ b → cond (ends_at_end s) (Some (fields ++ (field ∷ []), st.StartRecord, [])) None ≡ Some q → Leaves s [] q
    at_end true t h = let r = rw t at h in let same : (fields ++ (field ∷ []), st.StartRecord, []) ≡ q = cc r in rw (← same) record { state = refl; fewer = rw t (omega arith) }
    at_end false t h = let r = rw t at h in cc r
next_record-leaves cfg s fields field (c ∷ rest) q e =
    by (is_end (step cfg s c).1) refl e (next_record-leaves cfg (step cfg s c).0 (fields_after (step cfg s c).1 fields field) (field_after (step cfg s c).1 c field) rest q)
  where
    by : (b : Bool) → is_end (step cfg s c).1 ≡ b
        → cond (is_end (step cfg s c).1) (Some (fields_after (step cfg s c).1 fields field, (step cfg s c).0, rest)) (next_record cfg (step cfg s c).0 (fields_after (step cfg s c).1 fields field) (field_after (step cfg s c).1 c field) rest) ≡ Some q
        → (next_record cfg (step cfg s c).0 (fields_after (step cfg s c).1 fields field) (field_after (step cfg s c).1 c field) rest ≡ Some q → Leaves (step cfg s c).0 rest q)
        → Leaves s (c ∷ rest) q
    by true t h more =
        let r = rw t at h in
        let same : (fields_after (step cfg s c).1 fields field, (step cfg s c).0, rest) ≡ q = cc r in
        rw (← same) record { state = step_rests cfg s c t; fewer = omega (arith, at_most_one (ends_at_end s)) }
    by false t h more =
        let r = more (rw t at h) in
        record { state = r.state; fewer = omega (arith, at_most_one (ends_at_end s), r.fewer) }

-- counting further than the length of the text finds no more records
pub records_from-enough : (cfg : Config) (n m : ℕ) (s : State) (bytes : List ℕ) → ends_at_end s ≡ false → length bytes < n → length bytes < m → records_from cfg n s bytes ≡ records_from cfg m s bytes
unfolding records_from
records_from-enough cfg zero m s bytes e h k = absurd (omega arith)
records_from-enough cfg (suc n) zero s bytes e h k = absurd (omega arith)
records_from-enough cfg (suc n) (suc m) s bytes e h k = by (next_record cfg s [] [] bytes) refl (records_from-enough cfg n m)
  where
    by : (o : Option Read) → next_record cfg s [] [] bytes ≡ o
        → ((s : State) (bytes : List ℕ) → ends_at_end s ≡ false → length bytes < n → length bytes < m → records_from cfg n s bytes ≡ records_from cfg m s bytes)
        → records_next (records_from cfg n) o ≡ records_next (records_from cfg m) o
    by None t more = refl
    by (Some q) t more =
        let left = next_record-leaves cfg s [] [] bytes q t in
        let fewer : length q.2 + 1 ≤ length bytes = rw e at left.fewer in
        ap (λ (rows : List (List (List ℕ))). q.0 ∷ rows) (more q.1 q.2 left.state (omega arith) (omega arith))

-- a read that found a record took the first of those that were left
pub takes : (a b : Reader (Bor (List ℕ))) (row : List (List ℕ)) → IsBetween a → ReadRecord (λ s. Some s.now) a b true row
    → (z : List ℕ) × (unread b ≡ Some z) × (ends_at_end (reader_state b) ≡ false) × (left_of a ≡ row ∷ left_of b)
unfolding Reached records_from
takes a b row between read =
    let start : Reached default_config (reader_state a) between.bytes [] (reader_state a) between.bytes = (refl, refl) in
    let (z, known, reached) = rows-more (λ s. Some s.now) a b row default_config (reader_state a) between.bytes between.bytes [] between.config between.known start read in
    let q = reached.0 in
    let left = next_record-leaves default_config (reader_state a) [] [] between.bytes q reached.1 in
    let resting : ends_at_end (reader_state b) ≡ false = rw (← reached.3.0) left.state in
    let fewer : length z + 1 ≤ length between.bytes = rw (between.state, reached.3.1) at left.fewer in
    let later : records_from default_config (length between.bytes) (reader_state b) z ≡ records_from default_config (length z + 1) (reader_state b) z =
    records_from-enough default_config (length between.bytes) (length z + 1) (reader_state b) z resting (omega arith) (omega arith) in
    (z, known, resting, rw (between.known, known, add-one, reached.1) (cc (reached.2, reached.3.0, reached.3.1, later)))

-- a read that found none left none
pub takes_none : (a b : Reader (Bor (List ℕ))) (row : List (List ℕ)) → IsBetween a → ReadRecord (λ s. Some s.now) a b false row → left_of a ≡ []
unfolding records_from
takes_none a b row between read =
    let none = rows-end (λ s. Some s.now) a b row default_config between.bytes between.config between.known read in
    rw (between.known, add-one, none) refl
