-- What is answered and written, put together.
use Rattle.std.proofs.Common.{◌≡◌, inl, inr, ℕ, List, Option, Some, None, IsSomeAnd, refl, subst, sym}
use Rattle.command_words.specs.Commands.{IsTask, Task, task_of}
use Rattle.command_words.specs.Messages.{all_asked}
use Rattle.command_words.specs.Commands.Task.{check, plan, serve}
use Rattle.command_words.specs.declared.command.Command.TheVariants as commands
use Rattle.command_words.specs.declared.serving.Serving.{Serving}
use Rattle.otp_base.specs.declared.folder.FileEntry.{FileEntry}
use Rattle.otp_model.specs.declared.options.Options.{Options}
use Rattle.otp_server.specs.Commands.{Checks, Fails, IsFeedFault, IsPlanFault, Plans}
use Rattle.otp_server.specs.Lines.{line_of, status_of}
use Rattle.otp_server.specs.Offline.{Answers, Finishes, IsDone, IsFailed, IsNoneHere, IsRefused, IsTold}
use Rattle.otp_server.specs.declared.refusal.Refusal.{Refusal}
use Rattle.otp_server.specs.declared.refusal.Refusal.TheVariants as refusal
use Rattle.otp_server.specs.declared.status.Status.{Status}
use Rattle.otp_server.specs.declared.status.Status.TheVariants as status

-- ---- a command

pub check_done : (files : Option (List FileEntry)) (words : List (List ℕ)) (on : _) (options : Options) (text : List ℕ) (read : Option Task)
    → task_of words ≡ read → IsSomeAnd read (IsTask (commands.Check on options)) → Checks files on.now options text → IsDone files words text
check_done files words on options text None e m h = absurd m
check_done files words on options text (Some (plan path query messages asked)) e m h = absurd m
check_done files words on options text (Some (serve path asked serving)) e m h = absurd m
check_done files words on options text (Some (check path asked)) e m h = record {
  task = check path asked;
  options = options;
  asked = record { task_is = e; options_are = m.1 };
  writes = subst (λ p. Checks files p options text) m.0 h;
}

pub plan_done : (files : Option (List FileEntry)) (words : List (List ℕ)) (on of told : _) (options : Options) (text : List ℕ) (read : Option Task)
    → task_of words ≡ read → IsSomeAnd read (IsTask (commands.Plan on of told options)) → Plans files on.now options (all_asked told.items) of.now text → IsDone files words text
plan_done files words on of told options text None e m h = absurd m
plan_done files words on of told options text (Some (check path asked)) e m h = absurd m
plan_done files words on of told options text (Some (serve path asked serving)) e m h = absurd m
plan_done files words on of told options text (Some (plan path query messages asked)) e m h = record {
  task = plan path query messages asked;
  options = options;
  asked = record { task_is = e; options_are = m.3 };
  writes = subst (λ p. Plans files p options messages query text) m.0
      (subst (λ q. Plans files on.now options messages q text) m.1 (subst (λ ms. Plans files on.now options ms of.now text) m.2 h));
}

no_words : (files : Option (List FileEntry)) (task : Task) (options : Options) → Fails files task options refusal.Words → ⊥
no_words files (check path asked) options h = h
no_words files (plan path query messages asked) options h = h
no_words files (serve path asked serving) options h = h

failed_refused : (files : Option (List FileEntry)) (words : List (List ℕ)) (why : Refusal) → IsFailed files words why → IsRefused files words why
failed_refused files words refusal.Words h = absurd (no_words files h.task h.options h.fails)
failed_refused files words (refusal.Feed fault) h = h
failed_refused files words (refusal.Request fault) h = h
failed_refused files words (refusal.Message place why) h = h
failed_refused files words refusal.Read h = tt
failed_refused files words refusal.Memory h = tt

pub check_refused : (files : Option (List FileEntry)) (words : List (List ℕ)) (on : _) (options : Options) (why : Refusal) (read : Option Task)
    → task_of words ≡ read → IsSomeAnd read (IsTask (commands.Check on options)) → IsFeedFault files on.now options why → IsRefused files words why
check_refused files words on options why None e m h = absurd m
check_refused files words on options why (Some (plan path query messages asked)) e m h = absurd m
check_refused files words on options why (Some (serve path asked serving)) e m h = absurd m
check_refused files words on options why (Some (check path asked)) e m h = failed_refused files words why (record {
  task = check path asked;
  options = options;
  asked = record { task_is = e; options_are = m.1 };
  fails = subst (λ p. IsFeedFault files p options why) m.0 h;
})

pub plan_refused : (files : Option (List FileEntry)) (words : List (List ℕ)) (on of told : _) (options : Options) (why : Refusal) (read : Option Task)
    → task_of words ≡ read → IsSomeAnd read (IsTask (commands.Plan on of told options)) → IsPlanFault files on.now options (all_asked told.items) of.now why → IsRefused files words why
plan_refused files words on of told options why None e m h = absurd m
plan_refused files words on of told options why (Some (check path asked)) e m h = absurd m
plan_refused files words on of told options why (Some (serve path asked serving)) e m h = absurd m
plan_refused files words on of told options why (Some (plan path query messages asked)) e m h = failed_refused files words why (record {
  task = plan path query messages asked;
  options = options;
  asked = record { task_is = e; options_are = m.3 };
  fails = subst (λ p. IsPlanFault files p options messages query why) m.0
      (subst (λ q. IsPlanFault files on.now options messages q why) m.1 (subst (λ ms. IsPlanFault files on.now options ms of.now why) m.2 h));
})

pub serve_refused : (read : Option Task) (on : _) (options : Options) (serving : Serving) → IsSomeAnd read (IsTask (commands.Serve on options serving)) → IsNoneHere read
serve_refused None on options serving m = tt
serve_refused (Some (check path asked)) on options serving m = absurd m
serve_refused (Some (plan path query messages asked)) on options serving m = absurd m
serve_refused (Some (serve path asked wanted)) on options serving m = tt

pub none_refused : (read : Option Task) → read ≡ None → IsNoneHere read
none_refused read e = rw e tt

-- ---- what is written

module _ (files : Option (List FileEntry)) (words : List (List ℕ)) (before now : Option (List ℕ)) (faults_before faults_now : ℕ) where
  -- a command that is carried out writes its text, or fails behind a front of it
  pub done_answers : (text : List ℕ) (result : Status)
      → IsDone files words text → Finishes before now faults_before faults_now text status.Done result → Answers files words before now result
  done_answers text result done (inl h) = inl (text, inl (h.0, done), h.1)
  done_answers text result done (inr h) = inr (h.0, (status.Done, text, inl (refl, done), h.1))

  -- and so does a refusal that is told
  pub told_answers : (text : List ℕ) (s result : Status)
      → IsTold files words s text → Finishes before now faults_before faults_now text s result → Answers files words before now result
  told_answers text s result told (inl h) = inl (text, inr (subst (λ x. IsTold files words x text) (sym h.0) told), h.1)
  told_answers text s result told (inr h) = inr (h.0, (s, text, inr told, h.1))

pub told : (files : Option (List FileEntry)) (words : List (List ℕ)) (why : Refusal) (s : Status) (text : List ℕ)
    → IsRefused files words why → s ≡ status_of why → text ≡ line_of why → IsTold files words s text
told files words why s text refused status_is text_is = record { why = why; refused = refused; status_is = status_is; text_is = text_is }
