-- A message read field by field: what it holds after each, and the first fault.
use Rattle.std.specs.Prelude.{ℕ, Bool, List, [], ◌∷◌, Option, None}
use Rattle.pb_wire.specs.declared.field.Field.{Field}
use Rattle.pb_wire.specs.Cutting.{cut}
use Rattle.rt_reader.specs.declared.fault.MessageFault.{MessageFault}
use Rattle.rt_reader.specs.Faults.{first}
use Rattle.rt_reader.specs.Fields.{Part, bytes_in, Reading, wrong_value}
use Rattle.rt_reader.specs.Tables.{wrong_cut, fields_of}

-- what was read after these fields
unfoldable pub walk_value : {X : Type 0} → (X → Field → X) → X → List Field → X
walk_value add x [] = x
walk_value add x (f ∷ fs) = walk_value add (add x f) fs

abbrev pub wrong_field : {X : Type 0} → (ℕ → Reading) → (X → ℕ → Bool) → List ℕ → X → Field → Option MessageFault
wrong_field table seen body x f = wrong_value (table f.number) body (seen x f.number) f.at f.value

-- the first fault of these fields, where x was read before them
unfoldable pub walk_wrong : {X : Type 0} → (ℕ → Reading) → (X → ℕ → Bool) → (X → Field → X) → List ℕ → X → List Field → Option MessageFault
walk_wrong table seen add body x [] = None
walk_wrong table seen add body x (f ∷ fs) = first (wrong_field table seen body x f) (walk_wrong table seen add body (add x f) fs)

-- of the bytes of a part: first they are cut into fields, then the fields are read
unfoldable pub part_wrong : {X : Type 0} → (ℕ → Reading) → (X → ℕ → Bool) → (List ℕ → X → Field → X) → X → List ℕ → Part → Option MessageFault
part_wrong table seen add blank body p = wrong_cut (cut p.from (bytes_in body p)) (walk_wrong table seen (add body) body blank)

unfoldable pub part_value : {X : Type 0} → (List ℕ → X → Field → X) → X → List ℕ → Part → X
part_value add blank body p = walk_value (add body) blank (fields_of body p)
