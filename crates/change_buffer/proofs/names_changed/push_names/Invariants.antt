use Rattle.std.proofs.Common.{◌≡◌, ◌++◌, map, take}
use Rattle.change_buffer.proofs.KnownLemmas.{change_name}
use Rattle.change_buffer.proofs.names_changed.push_names.Given as goal

abbrev pub invariant-loop-change : goal.invariant-loop-change
invariant-loop-change l = l.names.items ≡ l.initial.names.items ++ map change_name (take l.change-index l.changes)
