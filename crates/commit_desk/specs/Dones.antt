-- What a commit answers.
use Rattle.std.specs.Prelude.{◌≡◌, ◌≢◌, ℕ, [], length}
use Rattle.otp_model.specs.Desk.{pending_in}
use Rattle.commit_history.specs.Views.{WriterView}
use Rattle.commit_desk.specs.Desks.{DeskView, writer_of}
use Rattle.commit_desk.specs.declared.done.Done.{Done}
use Rattle.commit_desk.specs.declared.done.Done.TheVariants.{Committed, Nothing}

-- the length of the published history, and a note that names all of it
abbrev pub IsTold : DeskView → ℕ → WriterView → Type 0
IsTold now number note = (number ≡ length now.state.history) × (note ≡ writer_of now)

-- whether something was pending, and what is published then
abbrev pub IsDone : DeskView → DeskView → Done → Type 0
IsDone before now (Committed number note) = (pending_in before.state.slots ≢ []) × IsTold now number note
IsDone before now (Nothing number note) = (pending_in before.state.slots ≡ []) × IsTold now number note
