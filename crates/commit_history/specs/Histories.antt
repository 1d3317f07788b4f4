-- The histories that a pass knows, in the order in which it learnt them.
use Rattle.std.specs.Prelude.{List, [], ◌∷◌, ◌++◌}
use Rattle.otp_model.specs.declared.message.Commit.{Commit}
use Rattle.commit_history.specs.declared.known.Known.{Known, Known-F, fold-Known}
use Rattle.commit_history.specs.declared.known.Known.TheOpen as known

abbrev pub histories_in : Known-F (List (List Commit)) → List (List Commit)
histories_in known.Nothing = []
histories_in (known.More last before) = before.value ++ last.value.log ∷ []

abbrev pub histories_of : Known → List (List Commit)
histories_of known = fold-Known (List (List Commit)) histories_in known
