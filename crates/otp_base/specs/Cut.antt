-- A text cut at a byte.
use Rattle.std.specs.Prelude.{ℕ, ◌==◌, Bool, List, length, Option, Some, None, nat_lt, if◌then◌else◌}
use Rattle.std.specs.List.{before_first, after_first, position_or_len}

abbrev pub is_byte : ℕ → ℕ → Bool
is_byte c b = b == c

-- the text up to the first byte c, and what stands behind it; none where it has no such byte
abbrev pub cut : ℕ → List ℕ → Option (List ℕ × List ℕ)
cut c text = if nat_lt (position_or_len (is_byte c) text) (length text) then Some (before_first (is_byte c) text, after_first (is_byte c) text) else None
