-- Bytes cut into fields from the front, by functions on lists: a value and the bytes after it, or the first fault.
use Rattle.std.specs.Prelude.{◌≡◌, ℕ, zero, suc, ◌+◌, ◌-◌, ◌*◌, ◌/◌, ◌%◌, ◌^◌, List, [], ◌∷◌, length, take, drop, Option, Some, None, Result, Ok, Err, nat_lt, ◌==◌, if◌then◌else◌}
use Rattle.std.specs.Int.{w32, w64, from_le_bytes}
use Rattle.otp_base.specs.Results.{◌>>=◌}
use Rattle.pb_wire.specs.declared.field.Field.{Field}
use Rattle.pb_wire.specs.declared.field.FieldValue.{FieldValue}
use Rattle.pb_wire.specs.declared.field.FieldValue.TheVariants as value
use Rattle.pb_wire.specs.declared.field.WireFault.{WireFault}
use Rattle.pb_wire.specs.declared.field.WireFault.TheVariants as fault

-- what a function returned, seen by view, is what reading gives
abbrev pub Is : {X Y : Type 0} → (X → Y) → Result X WireFault → Result Y WireFault → Type 0
Is view (Ok x) read = read ≡ Ok (view x)
Is view (Err e) read = read ≡ Err e

-- each fault tells itself, but want of memory
abbrev pub told_of : WireFault → Option WireFault
told_of (fault.Cut a) = Some (fault.Cut a)
told_of (fault.LongVarint a) = Some (fault.LongVarint a)
told_of (fault.Group a) = Some (fault.Group a)
told_of (fault.ZeroField a) = Some (fault.ZeroField a)
told_of fault.Memory = None

-- a varint of at most so many bytes
unfoldable pub varint_in : ℕ → ℕ → List ℕ → Result (ℕ × List ℕ) WireFault
varint_in zero at bytes = Err (fault.LongVarint at)
varint_in (suc room) at [] = Err (fault.Cut at)
varint_in (suc room) at (b ∷ bs) = if nat_lt b 128 then Ok (b, bs) else (varint_in room at bs >>= λ x. Ok (b - 128 + 128 * x.0, x.1))

unfoldable pub varint_at : ℕ → List ℕ → Result (ℕ × List ℕ) WireFault
varint_at at bytes = varint_in 10 at bytes >>= λ x. Ok (x.0 % 2 ^ 64, x.1)

unfoldable pub eight_at : ℕ → List ℕ → Result (FieldValue × List ℕ) WireFault
eight_at at bytes = if nat_lt (length bytes) 8 then Err (fault.Cut at) else Ok (value.Eight (from_le_bytes w64 (take 8 bytes)), drop 8 bytes)

unfoldable pub four_at : ℕ → List ℕ → Result (FieldValue × List ℕ) WireFault
four_at at bytes = if nat_lt (length bytes) 4 then Err (fault.Cut at) else Ok (value.Four (from_le_bytes w32 (take 4 bytes)), drop 4 bytes)

-- where the offset `from` is, counted back from the bytes that are left
abbrev pub part_from : ℕ → ℕ → List ℕ → ℕ → List ℕ → Result (FieldValue × List ℕ) WireFault
part_from at here bytes n rest = if nat_lt (length rest) n then Err (fault.Cut at) else Ok (value.Bytes (here + (length bytes - length rest)) (here + (length bytes - length rest) + n), drop n rest)

-- a length, which stands at `here`, and that many bytes
unfoldable pub part_at : ℕ → ℕ → List ℕ → Result (FieldValue × List ℕ) WireFault
part_at at here bytes = varint_at at bytes >>= λ n. part_from at here bytes n.0 n.1

unfoldable pub value_at : ℕ → ℕ → ℕ → List ℕ → Result (FieldValue × List ℕ) WireFault
value_at kind at here bytes =
    if kind == 0 then (varint_at at bytes >>= λ n. Ok (value.Varint n.0, n.1))
    else if kind == 1 then eight_at at bytes
    else if kind == 2 then part_at at here bytes
    else if kind == 5 then four_at at bytes
    else Err (fault.Group at)

-- a field with this tag, whose value stands at `here`
abbrev pub field_from : ℕ → ℕ → ℕ → List ℕ → Result (Field × List ℕ) WireFault
field_from at here key rest =
    if key / 8 == 0 then Err (fault.ZeroField at)
    else (value_at (key % 8) at here rest >>= λ v. Ok (record { number = key / 8; at = at; value = v.0 }, v.1))

unfoldable pub field_at : ℕ → List ℕ → Result (Field × List ℕ) WireFault
field_at at bytes = varint_at at bytes >>= λ key. field_from at (at + (length bytes - length key.1)) key.0 key.1

-- At most so many fields: each has a byte, so as many as there are bytes are all.
unfoldable pub cut_in : ℕ → ℕ → List ℕ → Result (List Field) WireFault
cut_in n at [] = Ok []
cut_in zero at (b ∷ bs) = Ok []
cut_in (suc n) at (b ∷ bs) =
    field_at at (b ∷ bs) >>= λ f. cut_in n (at + (length (b ∷ bs) - length f.1)) f.1 >>= λ fs. Ok (f.0 ∷ fs)

-- all of the bytes, which stand at `at`
unfoldable pub cut : ℕ → List ℕ → Result (List Field) WireFault
cut at bytes = cut_in (length bytes) at bytes
