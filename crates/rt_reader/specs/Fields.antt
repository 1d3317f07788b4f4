-- What a field says, by its number and its value, and what is wrong with it: Protocol Buffers, "Field
-- Types" and "Last One Wins". That a field with another wire type than its own, or a second value of a
-- singular message, is refused is this project's own.
use Rattle.std.specs.Prelude.{ℕ, Bool, not, ◌-◌, List, take, drop, Option, Some, None, ◌==◌, if◌then◌else◌}
use Rattle.std.specs.Str.{is_utf8}
use Rattle.pb_wire.specs.declared.field.Field.{Field}
use Rattle.pb_wire.specs.declared.field.FieldValue.{FieldValue}
use Rattle.pb_wire.specs.declared.field.FieldValue.TheVariants as value
use Rattle.rt_reader.specs.declared.fault.MessageFault.{MessageFault}
use Rattle.rt_reader.specs.declared.fault.MessageFault.TheVariants as fault

-- where bytes lie in the body
pub record Part : Type 0 where
  pub from : ℕ
  pub to : ℕ

abbrev pub bytes_in : List ℕ → Part → List ℕ
bytes_in body p = take (p.to - p.from) (drop p.from body)

abbrev pub number_of : FieldValue → Option ℕ
number_of (value.Varint n) = Some n
number_of (value.Eight n) = None
number_of (value.Bytes from to) = None
number_of (value.Four n) = None

abbrev pub part_of : FieldValue → Option Part
part_of (value.Varint n) = None
part_of (value.Eight n) = None
part_of (value.Bytes from to) = Some (record { from = from; to = to })
part_of (value.Four n) = None

-- the number, or the part, of a field with this number
abbrev pub number_in : ℕ → Field → Option ℕ
number_in n f = if f.number == n then number_of f.value else None

abbrev pub part_in : ℕ → Field → Option Part
part_in n f = if f.number == n then part_of f.value else None

-- the second, where it is there
abbrev pub later : {X : Type 0} → Option X → Option X → Option X
later a None = a
later a (Some x) = Some x

abbrev pub not_zero : ℕ → Bool
not_zero n = not (n == 0)

-- How a field is read: not at all, as a varint, as text, as a message that stands at most once, or as
-- one of many messages. Of a message it is known what is wrong with its bytes.
pub data Reading : Type 0 where
  skipped : Reading
  number : Reading
  words : Reading
  one : (List ℕ → Part → Option MessageFault) → Reading
  many : (List ℕ → Part → Option MessageFault) → Reading

-- what is wrong with a field of each kind, whose tag stands at `at`
abbrev pub wrong_number : ℕ → FieldValue → Option MessageFault
wrong_number at (value.Varint n) = None
wrong_number at (value.Eight n) = Some (fault.WrongType at)
wrong_number at (value.Bytes from to) = Some (fault.WrongType at)
wrong_number at (value.Four n) = Some (fault.WrongType at)

abbrev pub wrong_words : List ℕ → ℕ → FieldValue → Option MessageFault
wrong_words body at (value.Varint n) = Some (fault.WrongType at)
wrong_words body at (value.Eight n) = Some (fault.WrongType at)
wrong_words body at (value.Bytes from to) = if is_utf8 (bytes_in body (record { from = from; to = to })) then None else Some (fault.NotText at)
wrong_words body at (value.Four n) = Some (fault.WrongType at)

-- `again` says that a value stood before it
abbrev pub wrong_one : (List ℕ → Part → Option MessageFault) → List ℕ → Bool → ℕ → FieldValue → Option MessageFault
wrong_one inside body again at (value.Varint n) = Some (fault.WrongType at)
wrong_one inside body again at (value.Eight n) = Some (fault.WrongType at)
wrong_one inside body again at (value.Bytes from to) = if again then Some (fault.Repeated at) else inside body (record { from = from; to = to })
wrong_one inside body again at (value.Four n) = Some (fault.WrongType at)

abbrev pub wrong_many : (List ℕ → Part → Option MessageFault) → List ℕ → ℕ → FieldValue → Option MessageFault
wrong_many inside body at (value.Varint n) = Some (fault.WrongType at)
wrong_many inside body at (value.Eight n) = Some (fault.WrongType at)
wrong_many inside body at (value.Bytes from to) = inside body (record { from = from; to = to })
wrong_many inside body at (value.Four n) = Some (fault.WrongType at)

abbrev pub wrong_value : Reading → List ℕ → Bool → ℕ → FieldValue → Option MessageFault
wrong_value skipped body again at v = None
wrong_value number body again at v = wrong_number at v
wrong_value words body again at v = wrong_words body at v
wrong_value (one inside) body again at v = wrong_one inside body again at v
wrong_value (many inside) body again at v = wrong_many inside body at v
