use Rattle.std.specs.Prelude.{◌≡◌, ◌≤◌, length, take}
use Rattle.command_words.specs.Messages.{all_asked}
use Rattle.otp_server.specs.Messages.{IsAfterWords}
use Rattle.otp_server.proofs.messages.commit_words.Given as goal

abbrev pub invariant-loop-place : goal.invariant-loop-place
invariant-loop-place g l = record {
  unchanged : g.F.Folder.files l.folder ≡ g.F.Folder.files l.initial.folder;
  later : g.F.Folder.faults l.initial.folder ≤ g.F.Folder.faults l.folder;
  feeds : length l.committed.buffer ≡ l.feeds;
  after : IsAfterWords (g.F.Folder.files l.initial.folder) l.lookup l.feeds (all_asked (take l.place l.words)) l.committed;
}
