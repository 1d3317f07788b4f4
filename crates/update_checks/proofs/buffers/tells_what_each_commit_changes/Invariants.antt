use Rattle.std.proofs.Common.{◌≡◌, length}
use Rattle.change_buffer.specs.Forms.{AreResolved}
use Rattle.update_checks.proofs.buffers.tells_what_each_commit_changes.Given as goal

abbrev pub invariant-loop-feed_no : goal.invariant-loop-feed_no
invariant-loop-feed_no g l = record {
  two : length l.buffer ≡ 2;
  resolved : AreResolved l.feed l.buffer;
}
