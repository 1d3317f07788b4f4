use Rattle.std.proofs.Common.{◌≡◌, sym, subst, true, map, string_bytes}
use Rattle.clap.specs.Words.{App, HasMatchesOf, takes}
use Rattle.command_words.proofs.app.matches_in.Goals as goal

pub returns-in-Ok-clause-ok : goal.returns-in-Ok-clause-ok
returns-in-Ok-clause-ok c =
    subst (λ (a : App). HasMatchesOf a (map string_bytes c.args.words.now) c.in-Ok.matches) c.in_ok-command.ensures.ok c.in-Ok.ensures.matches

pub returns-in-Err-clause-err : goal.returns-in-Err-clause-err
returns-in-Err-clause-err c =
    let taken = subst (λ (a : App). takes a (map string_bytes c.args.words.now) ≡ true) (sym c.in_ok-command.ensures.ok) c.requires in
    c.fault_of.ensures (c.in-Err.ensures.passes taken)
