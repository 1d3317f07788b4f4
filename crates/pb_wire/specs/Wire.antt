-- What bytes a list of fields spells, and which fault of bytes is the first: the wire format of Protocol
-- Buffers (Encoding, "Base 128 Varints" and "Message Structure"). Groups are no fields here, and of a
-- varint's number the bits above the 64th are dropped.
use Rattle.std.specs.Prelude.{◌≡◌, ℕ, ◌+◌, ◌*◌, ◌%◌, ◌^◌, ◌<◌, ◌≤◌, List, [], ◌∷◌, ◌++◌, length}
use Rattle.std.specs.Int.{w32, w64, from_le_bytes}
use Rattle.pb_wire.specs.declared.field.Field.{Field}
use Rattle.pb_wire.specs.declared.field.FieldValue.{FieldValue}
use Rattle.pb_wire.specs.declared.field.FieldValue.TheVariants as value
use Rattle.pb_wire.specs.declared.field.WireFault.{WireFault}
use Rattle.pb_wire.specs.declared.field.WireFault.TheVariants as fault

-- A byte below 128 is the last, and stands for itself. One from 128 on has the low seven bits, and the
-- bytes after it stand for the rest.
abbrev pub StandsFor : List ℕ → ℕ → Type 0
StandsFor [] n = ⊥
StandsFor (b ∷ []) n = (b < 128) × (n ≡ b)
StandsFor (b ∷ c ∷ bs) n = (128 ≤ b) × ((high : ℕ) × (n + 128 ≡ b + 128 * high) × StandsFor (c ∷ bs) high)

-- One to ten bytes that spell a number below 2 ^ 64. Many bytes may spell the same number.
pub record IsVarint (bytes : List ℕ) (n : ℕ) : Type 0 where
  pub whole : ℕ
  pub stands : StandsFor bytes whole
  pub few : length bytes ≤ 10
  pub low : n ≡ whole % 2 ^ 64

-- a length and that many bytes, which lie from `from` to `to` where the length stands at `at`
pub record IsPart (at from to : ℕ) (bytes : List ℕ) : Type 0 where
  pub len : List ℕ
  pub text : List ℕ
  pub parts : bytes ≡ len ++ text
  pub long : IsVarint len (length text)
  pub starts : from ≡ at + length len
  pub ends : to ≡ from + length text

-- the bytes of a value that stands at `at`
abbrev pub IsValue : ℕ → FieldValue → List ℕ → Type 0
IsValue at (value.Varint n) bytes = IsVarint bytes n
IsValue at (value.Eight n) bytes = (length bytes ≡ 8) × (n ≡ from_le_bytes w64 bytes)
IsValue at (value.Bytes from to) bytes = IsPart at from to bytes
IsValue at (value.Four n) bytes = (length bytes ≡ 4) × (n ≡ from_le_bytes w32 bytes)

abbrev pub wire_type : FieldValue → ℕ
wire_type (value.Varint n) = 0
wire_type (value.Eight n) = 1
wire_type (value.Bytes from to) = 2
wire_type (value.Four n) = 5

-- A field that stands at `at`: its tag, a varint of number and wire type, and its value.
pub record IsField (at : ℕ) (f : Field) (bytes : List ℕ) : Type 0 where
  pub tag : List ℕ
  pub rest : List ℕ
  pub parts : bytes ≡ tag ++ rest
  pub key : IsVarint tag (8 * f.number + wire_type f.value)
  pub positive : 0 < f.number
  pub starts : f.at ≡ at
  pub says : IsValue (at + length tag) f.value rest

-- The bytes, which stand at `at`, are these fields in order.
abbrev pub Spells : ℕ → List Field → List ℕ → Type 0
Spells at [] bytes = bytes ≡ []
Spells at (f ∷ fs) bytes = (front : List ℕ) × (rest : List ℕ) × (bytes ≡ front ++ rest) × IsField at f front × Spells (at + length front) fs rest

-- each byte goes on
abbrev pub GoOn : List ℕ → Type 0
GoOn [] = Unit {0}
GoOn (b ∷ bs) = (128 ≤ b) × GoOn bs

-- so many bytes of a varint all go on
pub record IsLong (room : ℕ) (bytes : List ℕ) : Type 0 where
  pub front : List ℕ
  pub rest : List ℕ
  pub parts : bytes ≡ front ++ rest
  pub on : GoOn front
  pub all : length front ≡ room

-- why no varint of at most so many bytes stands at the front: the bytes end, or all go on
abbrev pub WrongVarint : ℕ → ℕ → List ℕ → WireFault → Type 0
WrongVarint room at bytes (fault.Cut a) = (a ≡ at) × GoOn bytes × (length bytes < room)
WrongVarint room at bytes (fault.LongVarint a) = (a ≡ at) × IsLong room bytes
WrongVarint room at bytes (fault.Group a) = ⊥
WrongVarint room at bytes (fault.ZeroField a) = ⊥
WrongVarint room at bytes fault.Memory = ⊥

-- a length is there, and fewer bytes
pub record IsShort (bytes : List ℕ) : Type 0 where
  pub len : List ℕ
  pub rest : List ℕ
  pub parts : bytes ≡ len ++ rest
  pub wanted : ℕ
  pub long : IsVarint len wanted
  pub short : length rest < wanted

-- why no value of this wire type stands at the front; `at` is the offset of the field's tag
pub data WrongValue (kind at : ℕ) (bytes : List ℕ) (e : WireFault) : Type 0 where
  wrong_varint : kind ≡ 0 → WrongVarint 10 at bytes e → WrongValue kind at bytes e
  wrong_eight : kind ≡ 1 → length bytes < 8 → e ≡ fault.Cut at → WrongValue kind at bytes e
  wrong_length : kind ≡ 2 → WrongVarint 10 at bytes e → WrongValue kind at bytes e
  wrong_part : kind ≡ 2 → IsShort bytes → e ≡ fault.Cut at → WrongValue kind at bytes e
  wrong_four : kind ≡ 5 → length bytes < 4 → e ≡ fault.Cut at → WrongValue kind at bytes e
  wrong_kind : (kind ≡ 0 → ⊥) → (kind ≡ 1 → ⊥) → (kind ≡ 2 → ⊥) → (kind ≡ 5 → ⊥) → e ≡ fault.Group at → WrongValue kind at bytes e

-- why no field stands at the front of bytes at `at`: its tag, then its number, then its wire type and value
pub data WrongField (at : ℕ) (bytes : List ℕ) (e : WireFault) : Type 0 where
  wrong_tag : WrongVarint 10 at bytes e → WrongField at bytes e
  wrong_number : (tag rest : List ℕ) (kind : ℕ) → bytes ≡ tag ++ rest → kind < 8 → IsVarint tag kind → e ≡ fault.ZeroField at → WrongField at bytes e
  wrong_value : (tag rest : List ℕ) (number kind : ℕ) → bytes ≡ tag ++ rest → kind < 8 → 0 < number → IsVarint tag (8 * number + kind) → WrongValue kind at rest e → WrongField at bytes e

-- The bytes, which stand at `at`, are some fields, and then no field can be read for this reason.
pub record IsFirstFault (at : ℕ) (bytes : List ℕ) (e : WireFault) : Type 0 where
  pub before : List Field
  pub front : List ℕ
  pub rest : List ℕ
  pub parts : bytes ≡ front ++ rest
  pub spelt : Spells at before front
  pub more : 0 < length rest
  pub wrong : WrongField (at + length front) rest e

-- the bytes of a value, where it has a range, lie between these offsets
abbrev pub LiesIn : ℕ → ℕ → FieldValue → Type 0
LiesIn low high (value.Varint n) = Unit {0}
LiesIn low high (value.Eight n) = Unit {0}
LiesIn low high (value.Bytes from to) = (low ≤ from) × (from ≤ to) × (to ≤ high)
LiesIn low high (value.Four n) = Unit {0}

abbrev pub LiesWithin : ℕ → ℕ → Field → Type 0
LiesWithin low high f = LiesIn low high f.value
