-- What the commands write over a folder, and why one is not carried out.
use Rattle.std.specs.Prelude.{◌≡◌, ℕ, List, length, IfSome, Option, Result, Ok, Err}
use Rattle.command_words.specs.Commands.{Task}
use Rattle.command_words.specs.Commands.Task.{check, plan, serve}
use Rattle.command_words.specs.Messages.{AskedMessage}
use Rattle.command_words.specs.Values.{Asked}
use Rattle.feed_load.specs.declared.loading.Loaded.{Loaded}
use Rattle.feed_load.specs.Loaded.{Loads}
use Rattle.feed_load.specs.Runs.{call_count}
use Rattle.gtfs_tables.specs.Feed.{tables_of}
use Rattle.otp_base.specs.declared.folder.FileEntry.{FileEntry}
use Rattle.otp_model.specs.declared.feed_fault.FeedFault.{FeedFault}
use Rattle.query_form.specs.declared.fault.TargetFault.{TargetFault}
use Rattle.otp_model.specs.declared.options.Options.{Options}
use Rattle.reply_bodies.specs.Plans.{IsSearchable}
use Rattle.otp_server.specs.Lines.{counts_line}
use Rattle.otp_server.specs.Reply.{IsHeldUp, IsPlanned, IsQueryFault}
use Rattle.otp_server.specs.declared.refusal.Untaken.{Untaken}
use Rattle.otp_server.specs.declared.refusal.Refusal.{Refusal}
use Rattle.otp_server.specs.declared.refusal.Refusal.TheVariants as refusal

-- this is what the files of the folder spell at a path, where the folder tells its files
abbrev pub Spells : Option (List FileEntry) → List ℕ → Options → Result Loaded FeedFault → Type 0
Spells files path options result = IfSome files (λ files. Loads options (tables_of path files) result)

-- the line of counts of the feed
abbrev pub counts_of : Loaded → List ℕ
counts_of loaded =
    counts_line (length loaded.feed.stops) (length loaded.feed.trips) (length loaded.feed.runs) (call_count loaded.feed.runs) loaded.passed

-- what `check` writes; the feed is sound over every folder
pub record Checks (files : Option (List FileEntry)) (path : List ℕ) (options : Options) (text : List ℕ) : Type 0 where
  pub loaded : Loaded
  pub spelt : Spells files path options (Ok loaded)
  pub searchable : IsSearchable loaded.feed loaded.edges
  pub text_is : text ≡ counts_of loaded

-- what `plan` writes; the feed is sound over every folder
pub record Plans (files : Option (List FileEntry)) (path : List ℕ) (options : Options) (messages : List AskedMessage) (query text : List ℕ) : Type 0 where
  pub loaded : Loaded
  pub spelt : Spells files path options (Ok loaded)
  pub searchable : IsSearchable loaded.feed loaded.edges
  pub planned : IsPlanned files loaded.feed loaded.edges messages query text

-- a fault of the feed; a failed read and want of memory say nothing of it
abbrev pub IsFeedFault : Option (List FileEntry) → List ℕ → Options → Refusal → Type 0
IsFeedFault files path options refusal.Words = ⊥
IsFeedFault files path options (refusal.Feed fault) = Spells files path options (Err fault)
IsFeedFault files path options (refusal.Request fault) = ⊥
IsFeedFault files path options (refusal.Message place why) = ⊥
IsFeedFault files path options refusal.Read = ⊥
IsFeedFault files path options refusal.Memory = Unit {0}

-- a feed, and the query's fault over it
pub record IsRefusedOver (files : Option (List FileEntry)) (path : List ℕ) (options : Options) (query : List ℕ) (why : TargetFault) : Type 0 where
  pub loaded : Loaded
  pub spelt : Spells files path options (Ok loaded)
  pub searchable : IsSearchable loaded.feed loaded.edges
  pub fault : IsQueryFault loaded.feed loaded.edges query why

-- a feed and a query without a fault, and the message that is refused
pub record IsHeldUpOver (files : Option (List FileEntry)) (path : List ℕ) (options : Options) (messages : List AskedMessage) (query : List ℕ) (place : ℕ) (why : Untaken) : Type 0 where
  pub loaded : Loaded
  pub spelt : Spells files path options (Ok loaded)
  pub searchable : IsSearchable loaded.feed loaded.edges
  pub held : IsHeldUp files loaded.feed loaded.edges messages query place why

-- a fault of the feed, or else of the query, or else of a message
abbrev pub IsPlanFault : Option (List FileEntry) → List ℕ → Options → List AskedMessage → List ℕ → Refusal → Type 0
IsPlanFault files path options messages query refusal.Words = ⊥
IsPlanFault files path options messages query (refusal.Feed fault) = Spells files path options (Err fault)
IsPlanFault files path options messages query (refusal.Request fault) = IsRefusedOver files path options query fault
IsPlanFault files path options messages query (refusal.Message place why) = IsHeldUpOver files path options messages query place why
IsPlanFault files path options messages query refusal.Read = Unit {0}
IsPlanFault files path options messages query refusal.Memory = Unit {0}

-- the options that a task asks for
abbrev pub asked_of : Task → Asked
asked_of (check path asked) = asked
asked_of (plan path query messages asked) = asked
asked_of (serve path asked serving) = asked

-- what a task writes over a folder alone, as `serve` doesn't
abbrev pub Writes : Option (List FileEntry) → Task → Options → List ℕ → Type 0
Writes files (check path asked) options text = Checks files path options text
Writes files (plan path query messages asked) options text = Plans files path options messages query text
Writes files (serve path asked serving) options text = ⊥

-- why a task is not carried out
abbrev pub Fails : Option (List FileEntry) → Task → Options → Refusal → Type 0
Fails files (check path asked) options why = IsFeedFault files path options why
Fails files (plan path query messages asked) options why = IsPlanFault files path options messages query why
Fails files (serve path asked serving) options why = ⊥
