-- A slice of a list: what is above a value.
use Rattle.std.specs.Prelude.{List, Option, option_map}
use Rattle.std.specs.List.{filter}
use Rattle.otp_model.specs.declared.journey.Cursor.{Cursor}
use Rattle.otp_model.specs.declared.journey.Found.{Found}
use Rattle.otp_model.specs.declared.journey.Value.{Value}
use Rattle.otp_model.specs.Whole.{is_after}

-- a cursor at a value: of its commit number the slice takes no account
abbrev pub cursor_at : Value → Cursor
cursor_at value = record { commit = 0; value = value }

-- the entries of a list above a value, if there is one: those after a cursor there
abbrev pub entries_above : Option Value → List Found → List Found
entries_above after list = filter (λ found. is_after (option_map cursor_at after) found.value) list
