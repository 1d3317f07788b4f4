-- Calls that are moved one after the other.
use Rattle.std.proofs.Common.{◌≡◌, ℕ, ◌+◌, ◌<◌, ◌≤◌, ℤ, List, [], ◌∷◌, length, get_or, drop, Option, refl}
use Rattle.std.proofs.lemmas.List.{drop_all}
use Rattle.otp_model.specs.Moves.{behind, here, Meant, Moved, moved_at, moved_from}
use Rattle.otp_model.specs.declared.message.StopUpdate.{StopUpdate}
use Rattle.otp_model.specs.declared.timetable.Call.{Call}
use Rattle.rt_resolve.proofs.ListLemmas.{drop_at}

-- the call at a place is moved by the update there, and those behind it with the delay that goes on
pub one_moved : (delay : ℤ) (place : ℕ) (meant left : List Meant) (calls : List Call) (any : Call) (update : Option StopUpdate) (moved : Moved)
    → place < length calls → update ≡ here place meant → left ≡ behind place meant → moved ≡ moved_at delay update (get_or calls place any)
    → moved.call ∷ moved_from moved.delay (place + 1) left (drop (place + 1) calls) ≡ moved_from delay place meant (drop place calls)
unfolding moved_from
one_moved delay place meant left calls any update moved less eu el em = rw (em, el, eu, drop_at calls place any less) refl

pub none_moved : (delay : ℤ) (place : ℕ) (meant : List Meant) (calls : List Call) → length calls ≤ place → [] ≡ moved_from delay place meant (drop place calls)
unfolding moved_from
none_moved delay place meant calls over = rw (drop_all place calls over) refl
