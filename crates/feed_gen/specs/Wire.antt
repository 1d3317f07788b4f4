-- Numbers and parts in the wire format of Protocol Buffers (Encoding, "Base 128 Varints" and "Message Structure").
use Rattle.std.specs.Prelude.{ℕ, zero, suc, ◌+◌, ◌*◌, ◌/◌, ◌%◌, List, [], ◌∷◌, ◌++◌, length, nat_lt, if◌then◌else◌}

-- A varint of no more bytes than the number allows: seven bits a byte, the lowest first, and 128 more in each but the last.
unfoldable pub varint_in : ℕ → ℕ → List ℕ
varint_in zero n = n ∷ []
varint_in (suc room) n = if nat_lt n 128 then n ∷ [] else (n % 128 + 128) ∷ varint_in room (n / 128)

-- the shortest varint of a number, which has fewer bytes than it counts
abbrev pub varint : ℕ → List ℕ
varint n = varint_in n n

-- a field that is a number
abbrev pub number_field : ℕ → ℕ → List ℕ
number_field field n = (8 * field) ∷ varint n

-- a field that is text, bytes or a message
abbrev pub bytes_field : ℕ → List ℕ → List ℕ
bytes_field field bytes = (8 * field + 2) ∷ (varint (length bytes) ++ bytes)
