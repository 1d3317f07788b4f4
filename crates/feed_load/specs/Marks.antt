-- Times of day that are marked, in rounds.
use Rattle.std.specs.Prelude.{◌≢◌, ◌↔◌, ℕ, ◌<◌, ◌≤◌, List, length, Bool, IsTrue, nat_eq, slice_index}
use Rattle.std.specs.List.{All, AllPairs, Contains, filter, range_with_len}
use Rattle.feed_load.specs.declared.marks.Marks.{Marks}

-- no time was marked in a round to come
pub record AreMarks (marks : Marks) : Type 0 where
  pub begun : 0 < marks.round
  pub past : All (λ round. round ≤ marks.round) marks.rounds.items

-- the time was marked in this round
abbrev pub is_marked : Marks → ℕ → Bool
is_marked marks time = nat_eq (slice_index marks.rounds.items time) marks.round

-- how many times there are
abbrev pub times_of : Marks → ℕ
times_of marks = length marks.rounds.items

-- how many of them are marked
abbrev pub marked_count : Marks → ℕ
marked_count marks = length (filter (is_marked marks) (range_with_len 0 (times_of marks)))

-- the list has each marked time once
pub record AreListed (marks : Marks) (times : List ℕ) : Type 0 where
  pub once : AllPairs (λ a b. a ≢ b) times
  pub marked : (time : ℕ) → Contains times time ↔ IsTrue (is_marked marks time)
