use Rattle.std.proofs.Common.{arith}
use Rattle.command_words.proofs.command.command_of.Goals as goal

pub returns-in_ok-messages-in-len2-up-clause-ranges : goal.returns-in_ok-messages-in-len2-up-clause-ranges
returns-in_ok-messages-in-len2-up-clause-ranges c =
    (c.requires, c.in_ok-messages-in-len2-up.ensures.range, omega (arith, c.in_ok-messages-in-len2-up.ensures.count, c.if-words-le-MOST_MESSAGES.true))
