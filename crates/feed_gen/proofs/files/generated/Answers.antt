use Rattle.std.proofs.Common.{◌≡◌, ℕ, ◌≤◌, List, string_bytes, subst}
use Rattle.std.specs.Prelude.{MatchOption}
use Rattle.feed_gen.specs.Files.{IsTable}
use Rattle.feed_gen.specs.Messages.{message_name}
use Rattle.feed_gen.proofs.StepLemmas.{no_file}
use Rattle.feed_gen.proofs.files.generated.Goals as goal

pub returns-in_default-2 : goal.returns-in_default-2
returns-in_default-2 c =
    no_file c.args.seed c.args.name.now
    (subst (λ found. MatchOption found ((bytes : List ℕ) → IsTable c.args.seed c.args.name.now bytes → ⊥) (λ text. IsTable c.args.seed c.args.name.now (string_bytes text))) c.in_default.is c.in_ok-text.ensures)
    (subst (λ found. MatchOption found
    ((commit feed : ℕ) → 1 ≤ commit → commit ≤ 20 → 1 ≤ feed → feed ≤ 10 → c.args.name.now ≡ message_name commit feed → ⊥)
    (λ at. (c.args.name.now ≡ message_name at.commit at.feed) × ((1 ≤ at.commit) × (1 ≤ at.feed)) × ((at.commit ≤ 20) × (at.feed ≤ 10)))) c.in_default-2.is c.in_ok-number.ensures)
