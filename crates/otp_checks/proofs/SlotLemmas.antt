-- A desk keeps its number of real-time feeds.
use Rattle.std.proofs.Common.{◌≡◌, ℕ, zero, suc, List, [], ◌∷◌, length, refl, ap}
use Rattle.otp_model.specs.Desk.{DeskState, Slot, accepts, offered_at}
use Rattle.otp_model.specs.declared.message.Message.{Message}

offered_length : (place : ℕ) (message : Message) (slots : List Slot) → length (offered_at place message slots) ≡ length slots
unfolding offered_at
offered_length place message [] = refl
offered_length zero message (slot ∷ slots) = refl
offered_length (suc place) message (slot ∷ slots) = ap suc (offered_length place message slots)

pub accepts_keeps : (message : Message) (state : DeskState) → length (accepts 1 message state).slots ≡ length state.slots
accepts_keeps message state = offered_length 0 message state.slots
