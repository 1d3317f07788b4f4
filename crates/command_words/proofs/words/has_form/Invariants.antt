use Rattle.std.proofs.Common.{◌≡◌, is_some, map, string_bytes, length}
use Rattle.command_words.specs.Words.{positionals_of}
use Rattle.command_words.proofs.words.has_form.Given as goal

-- what is left has a form where all words have one
abbrev pub invariant-loop-word : goal.invariant-loop-word
invariant-loop-word l = is_some (positionals_of (map string_bytes l.words)) ≡ is_some (positionals_of (map string_bytes l.left))

abbrev pub decreases-loop-word : goal.decreases-loop-word
decreases-loop-word l = length l.left
