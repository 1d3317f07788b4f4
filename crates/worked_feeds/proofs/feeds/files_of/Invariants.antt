use Rattle.std.specs.Prelude.{◌≡◌, ◌++◌, take}
use Rattle.std.specs.List.{flat_map}
use Rattle.worked_feeds.specs.Feeds.{entry_kept, entry_of}
use Rattle.worked_feeds.proofs.feeds.files_of.Given as goal

abbrev pub invariant-loop-file : goal.invariant-loop-file
invariant-loop-file l = l.files ≡ flat_map (entry_kept l.changes) (take l.file-index l.feed)

abbrev pub invariant-loop-change : goal.invariant-loop-change
invariant-loop-change l = l.files ≡ flat_map (entry_kept l.changes) l.feed ++ flat_map entry_of (take l.change-index l.changes)
