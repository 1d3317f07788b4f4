use Rattle.std.proofs.Common.{◌∙◌, rules, map, string_bytes, ap, refl, subst, codes}
use Rattle.std.proofs.lemmas.Result.{err_from_is_err_and}
use Rattle.clap.specs.Words.{found_of}
use Rattle.clap.proofs.WalkLemmas.{raw_values-rows}
use Rattle.command_words.specs.App.{found_text}
use Rattle.command_words.specs.Commands.{IsCommandOf}
use Rattle.command_words.specs.Serving.{serving_given}
use Rattle.command_words.proofs.FoundFacts.{line-read, line-taken}
use Rattle.command_words.proofs.ReadFacts.{a-command, found-positionals, no-options}
use Rattle.command_words.proofs.command.read_words.Goals as goal

pub matches_in-requires : goal.matches_in-requires
matches_in-requires c = line-taken _ _ (string_bytes c.in-Some.name.now) (ap (map string_bytes) c.in-Some.ensures.cases.0) (search rules) (search rules)

pub returns-in_err-options-clause-refuses : goal.returns-in_err-options-clause-refuses
returns-in_err-options-clause-refuses c =
    let task = line-read _ _ (string_bytes c.in-Some.name.now) c.in_ok-matches.matches (ap (map string_bytes) c.in-Some.ensures.cases.0) (search rules) (search rules) c.in_ok-matches.ensures.ok in
    let p = err_from_is_err_and c.from_residual-in_err-options.result c.from_residual-in_err-options.ensures.1 in
    rw (p.1, p.2) (no-options _ _ _ c.in_err-options.field-0.0 task c.in_err-options.ensures.refuses)

pub returns-clause-reads : goal.returns-clause-reads
returns-clause-reads c =
    let task = line-read _ _ (string_bytes c.in-Some.name.now) c.in_ok-matches.matches (ap (map string_bytes) c.in-Some.ensures.cases.0) (search rules) (search rules) c.in_ok-matches.ensures.ok in
    let on = found-positionals _ _ _ _ refl c.unwrap_or-positionals.ensures (c.get_strs.ensures ∙ raw_values-rows (found_of c.in_ok-matches.matches) (codes "words")) in
    (a-command _ _ _ _ _ _ (serving_given (found_text c.in_ok-matches.matches)) _ _ task c.as_str.ensures.value on c.in_ok-options.ensures.reads
    (subst (λ texts. IsCommandOf c.as_str.result.now (map (λ word. word.now) c.unwrap_or-positionals.result.now) texts c.in_ok-options.options c.command_of.result) c.serving_texts-serving.ensures c.command_of.ensures.command)).0

pub returns-clause-refuses : goal.returns-clause-refuses
returns-clause-refuses c =
    let task = line-read _ _ (string_bytes c.in-Some.name.now) c.in_ok-matches.matches (ap (map string_bytes) c.in-Some.ensures.cases.0) (search rules) (search rules) c.in_ok-matches.ensures.ok in
    let on = found-positionals _ _ _ _ refl c.unwrap_or-positionals.ensures (c.get_strs.ensures ∙ raw_values-rows (found_of c.in_ok-matches.matches) (codes "words")) in
    (a-command _ _ _ _ _ _ (serving_given (found_text c.in_ok-matches.matches)) _ _ task c.as_str.ensures.value on c.in_ok-options.ensures.reads
    (subst (λ texts. IsCommandOf c.as_str.result.now (map (λ word. word.now) c.unwrap_or-positionals.result.now) texts c.in_ok-options.options c.command_of.result) c.serving_texts-serving.ensures c.command_of.ensures.command)).1
