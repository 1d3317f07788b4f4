-- What a command line is answered over a folder, and what is written.
use Rattle.std.specs.Prelude.{◌≡◌, ◌⊎◌, ℕ, List, Option, Some, None}
use Rattle.command_words.specs.Commands.{Task, task_of}
use Rattle.command_words.specs.Commands.Task.{serve}
use Rattle.command_words.specs.Values.{AreAsked}
use Rattle.otp_base.specs.Faults.{Rose}
use Rattle.otp_base.specs.Sink.{AppendsFront, AppendsKnown}
use Rattle.otp_base.specs.declared.folder.FileEntry.{FileEntry}
use Rattle.otp_model.specs.declared.options.Options.{Options}
use Rattle.otp_server.specs.Commands.{Fails, Writes, asked_of}
use Rattle.otp_server.specs.Lines.{line_of, status_of}
use Rattle.otp_server.specs.declared.refusal.Refusal.{Refusal}
use Rattle.otp_server.specs.declared.refusal.Refusal.TheVariants as refusal
use Rattle.otp_server.specs.declared.status.Status.{Status}
use Rattle.otp_server.specs.declared.status.Status.TheVariants as status

-- the words are this task, with these options
pub record IsAskedBy (words : List (List ℕ)) (task : Task) (options : Options) : Type 0 where
  pub task_is : task_of words ≡ Some task
  pub options_are : AreAsked (asked_of task) options

-- the words are a command, and the text is what it writes
pub record IsDone (files : Option (List FileEntry)) (words : List (List ℕ)) (text : List ℕ) : Type 0 where
  pub task : Task
  pub options : Options
  pub asked : IsAskedBy words task options
  pub writes : Writes files task options text

-- the words are a command, which is not carried out for this reason
pub record IsFailed (files : Option (List FileEntry)) (words : List (List ℕ)) (why : Refusal) : Type 0 where
  pub task : Task
  pub options : Options
  pub asked : IsAskedBy words task options
  pub fails : Fails files task options why

-- the words are no command, or the one that isn't carried out over a folder alone
abbrev pub IsNoneHere : Option Task → Type 0
IsNoneHere None = Unit {0}
IsNoneHere (Some (serve path asked serving)) = Unit {0}
IsNoneHere (Some task) = ⊥

-- why nothing is carried out
abbrev pub IsRefused : Option (List FileEntry) → List (List ℕ) → Refusal → Type 0
IsRefused files words refusal.Words = IsNoneHere (task_of words)
IsRefused files words (refusal.Feed fault) = IsFailed files words (refusal.Feed fault)
IsRefused files words (refusal.Request fault) = IsFailed files words (refusal.Request fault)
IsRefused files words (refusal.Message place why) = IsFailed files words (refusal.Message place why)
IsRefused files words refusal.Read = Unit {0}
IsRefused files words refusal.Memory = Unit {0}

-- a refusal's status and its line
pub record IsTold (files : Option (List FileEntry)) (words : List (List ℕ)) (s : Status) (text : List ℕ) : Type 0 where
  pub why : Refusal
  pub refused : IsRefused files words why
  pub status_is : s ≡ status_of why
  pub text_is : text ≡ line_of why

-- the text that belongs to a status: what the command writes, or the line of a refusal
abbrev pub IsAnswer : Option (List FileEntry) → List (List ℕ) → Status → List ℕ → Type 0
IsAnswer files words s text = ((s ≡ status.Done) × IsDone files words text) ⊎ IsTold files words s text

-- The answer of the status was written whole; with Write a front of some answer was.
abbrev pub Answers : Option (List FileEntry) → List (List ℕ) → Option (List ℕ) → Option (List ℕ) → Status → Type 0
Answers files words before now s =
    ((text : List ℕ) × IsAnswer files words s text × AppendsKnown before now text)
    ⊎ ((s ≡ status.Write) × ((meant : Status) × (text : List ℕ) × IsAnswer files words meant text × AppendsFront before now text))

-- the text was written and the status is this one, or the sink failed behind a front of it
abbrev pub Finishes : Option (List ℕ) → Option (List ℕ) → ℕ → ℕ → List ℕ → Status → Status → Type 0
Finishes before now faults_before faults_now text s result =
    ((result ≡ s) × AppendsKnown before now text) ⊎ ((result ≡ status.Write) × AppendsFront before now text × Rose faults_before faults_now)
