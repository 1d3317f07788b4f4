-- The starts of a row of headways, one after the other.
use Rattle.std.proofs.Common.{◌≡◌, ℕ, ◌+◌, ◌-◌, ◌*◌, ◌/◌, ◌%◌, ◌<◌, ◌≤◌, Bool, true, false, ◌&&◌, ◌||◌, refl, ap, ◌∙◌, inl, inr, arith}
use Rattle.std.specs.Prelude.{nat_eq, nat_le, nat_lt}
use Rattle.std.proofs.Math.Nat.{lt_of_mul-lt-mul_right, mod-add-div', mul-mod_left}
use Rattle.std.proofs.lemmas.Bool.{and_from, false_from_ne_true, cases_eq, eq-eqb, eqb-true, le-leb, leb-true, lt-ltb, ltb-true, or_cases, or_left, or_right}
use Rattle.gtfs_links.specs.declared.feed.HeadwayRow.{HeadwayRow}
use Rattle.feed_load.specs.Starts.{IsStartOf, is_start_of}

pub bool_same : (a b : Bool) → (a ≡ true → b ≡ true) → (b ≡ true → a ≡ true) → a ≡ b
bool_same true true there back = refl
bool_same false false there back = refl
bool_same true false there back = let never : false ≡ true = there refl in absurd (cc never)
bool_same false true there back = let never : false ≡ true = back refl in absurd (cc never)

parts : (a b : Bool) → (a && b) ≡ true → (a ≡ true) × (b ≡ true)
parts true b h = (refl, h)
parts false b h = absurd (cc h)

-- a time that passes the test is a start, and a start passes it
pub start_true : (time : ℕ) (row : HeadwayRow) → is_start_of time row ≡ true → IsStartOf row time
start_true time row h =
    let first = parts (nat_le row.start time) (nat_lt time row.end && nat_eq ((time - row.start) % row.headway) 0) h in
    let second = parts (nat_lt time row.end) (nat_eq ((time - row.start) % row.headway) 0) first.1 in
    let from : row.start ≤ time = leb-true row.start time first.0 in
    let whole : (time - row.start) % row.headway ≡ 0 = eqb-true ((time - row.start) % row.headway) 0 second.1 in
    let all = mod-add-div' (time - row.start) row.headway in
    record {
      turns = (time - row.start) / row.headway;
      is = omega (arith, from, whole, all);
      before = ltb-true time row.end second.0;
    }

pub start_passes : (time : ℕ) (row : HeadwayRow) → IsStartOf row time → is_start_of time row ≡ true
start_passes time row h =
    let behind : time - row.start ≡ h.turns * row.headway = let is = h.is in omega (arith, is) in
    let whole : (time - row.start) % row.headway ≡ 0 = ap (λ (n : ℕ). n % row.headway) behind ∙ mul-mod_left h.turns row.headway in
    and_from (nat_le row.start time) (nat_lt time row.end && nat_eq ((time - row.start) % row.headway) 0) (le-leb row.start time (let is = h.is in omega (arith, is)))
    (and_from (nat_lt time row.end) (nat_eq ((time - row.start) % row.headway) 0) (lt-ltb time row.end h.before) (eq-eqb ((time - row.start) % row.headway) 0 whole))

next_turn : (turns headway : ℕ) → (turns + 1) * headway ≡ turns * headway + headway
next_turn turns headway = grind arith

pub before_turn : (few many headway : ℕ) → 0 < headway → few < many → few * headway < many * headway
before_turn few many headway some less = grind arith

-- the row up to so many of its starts
abbrev pub cut_at : HeadwayRow → ℕ → HeadwayRow
cut_at row turns = record row { end = row.start + turns * row.headway }

module _ (row : HeadwayRow) (some : 0 < row.headway) where
  -- no start yet
  pub cut_none : (time : ℕ) → is_start_of time (cut_at row 0) ≡ false
  cut_none time = false_from_ne_true (is_start_of time (cut_at row 0)) (λ h.
      let start = start_true time (cut_at row 0) h in
      let is = start.is in
      let before = start.before in
      absurd (omega (arith, is, before)))

  -- one start more
  pub cut_more : (turns time : ℕ) → is_start_of time (cut_at row (turns + 1)) ≡ (nat_eq time (row.start + turns * row.headway) || is_start_of time (cut_at row turns))
  cut_more turns time =
      bool_same (is_start_of time (cut_at row (turns + 1))) (nat_eq time (row.start + turns * row.headway) || is_start_of time (cut_at row turns)) there back
    where
      more : (turns + 1) * row.headway ≡ turns * row.headway + row.headway
      more = next_turn turns row.headway

      there : is_start_of time (cut_at row (turns + 1)) ≡ true → (nat_eq time (row.start + turns * row.headway) || is_start_of time (cut_at row turns)) ≡ true
      there h =
          let start = start_true time (cut_at row (turns + 1)) h in
          let is = start.is in
          let before = start.before in
          elim (cases_eq start.turns turns) [
            | inl same ↦
                let at : time ≡ row.start + turns * row.headway = is ∙ ap (λ (n : ℕ). row.start + n * row.headway) same in
                or_left (nat_eq time (row.start + turns * row.headway)) (is_start_of time (cut_at row turns)) (eq-eqb time (row.start + turns * row.headway) at)
            | inr other ↦
                let below : start.turns * row.headway < (turns + 1) * row.headway = omega (arith, is, before) in
                let fewer : start.turns < turns + 1 = lt_of_mul-lt-mul_right row.headway below in
                let least : start.turns < turns = omega (arith, fewer, other) in
                let early : time < row.start + turns * row.headway = omega (arith, is, before_turn start.turns turns row.headway some least) in
                or_right (nat_eq time (row.start + turns * row.headway)) (is_start_of time (cut_at row turns))
                (start_passes time (cut_at row turns) (record { turns = start.turns; is = is; before = early }))
          ]

      back : (nat_eq time (row.start + turns * row.headway) || is_start_of time (cut_at row turns)) ≡ true → is_start_of time (cut_at row (turns + 1)) ≡ true
      back h = elim (or_cases (nat_eq time (row.start + turns * row.headway)) (is_start_of time (cut_at row turns)) h) [
        | inl same ↦
            let at : time ≡ row.start + turns * row.headway = eqb-true time (row.start + turns * row.headway) same in
            start_passes time (cut_at row (turns + 1)) (record { turns = turns; is = at; before = omega (arith, at, more, some) })
        | inr earlier ↦
            let start = start_true time (cut_at row turns) earlier in
            let before = start.before in
            start_passes time (cut_at row (turns + 1)) (record { turns = start.turns; is = start.is; before = omega (arith, before, more, some) })
      ]

  -- the starts are those before the end
  pub cut_all : (turns time : ℕ) → ((turn : ℕ) → (turn < turns → row.start + turn * row.headway < row.end) × (row.start + turn * row.headway < row.end → turn < turns)) → is_start_of time (cut_at row turns) ≡ is_start_of time row
  cut_all turns time ends =
      bool_same (is_start_of time (cut_at row turns)) (is_start_of time row)
      (λ h.
      let start = start_true time (cut_at row turns) h in
      let is = start.is in
      let before = start.before in
      let below : start.turns * row.headway < turns * row.headway = omega (arith, is, before) in
      let early = (ends start.turns).0 (lt_of_mul-lt-mul_right row.headway below) in
      start_passes time row (record { turns = start.turns; is = is; before = omega (arith, is, early) }))
      (λ h.
      let start = start_true time row h in
      let is = start.is in
      let before = start.before in
      let fewer : start.turns < turns = (ends start.turns).1 (omega (arith, is, before)) in
      start_passes time (cut_at row turns) (record { turns = start.turns; is = is; before = omega (arith, is, before_turn start.turns turns row.headway some fewer) }))
