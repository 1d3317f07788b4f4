use Rattle.std.proofs.Common.{◌∙◌, ap₂, codes}
use Rattle.clap.specs.Words.{new_app}
use Rattle.clap.specs.Simple.{with_rule}
use Rattle.command_words.proofs.NameFacts.{with-all, with-one-more}
use Rattle.command_words.proofs.app.words_app.Goals as goal

pub loop-name-preserved : goal.loop-name-preserved
loop-name-preserved c =
    with-one-more (new_app (codes "kegqova")) _ c.loop-name.name-index _ _ _ _ c.loop-name-test.true c.loop-name.invariant (c.in_ok-command.ensures.shape c.option.ensures.local) c.option.ensures.rule

pub returns-clause-ok : goal.returns-clause-ok
returns-clause-ok c =
    c.in_ok-command-2.ensures.shape c.positionals.ensures.local
    ∙ ap₂ with_rule (with-all (new_app (codes "kegqova")) _ c.loop-name.name-index _ c.loop-name-test.false c.loop-name.invariant) c.positionals.ensures.rule
