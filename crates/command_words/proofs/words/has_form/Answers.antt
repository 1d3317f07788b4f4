use Rattle.std.proofs.Common.{rules, ◌∙◌, sym, ap, map, is_some, string_bytes, Some, None}
use Rattle.std.proofs.lemmas.List.{nil_from_length}
use Rattle.command_words.specs.Words.{positionals_of}
use Rattle.command_words.proofs.WordFacts.{form-end, form-plain, form-option}
use Rattle.command_words.proofs.words.has_form.Goals as goal

pub loop-word-preserved-then-is_plain : goal.loop-word-preserved-then-is_plain
loop-word-preserved-then-is_plain c =
    c.loop-word.invariant ∙ form-plain (map string_bytes c.loop-word.left.now) (map string_bytes c.in-Some.rest.now) (string_bytes c.in-Some.word.now) c.as_str-text.result.now
    (ap (map string_bytes) c.in-Some.ensures.cases.0) c.as_str-text.ensures.value (search rules)

pub returns-in_default-behind_option : goal.returns-in_default-behind_option
returns-in_default-behind_option c = sym (c.loop-word.invariant ∙ form-option (map string_bytes c.loop-word.left.now) (map string_bytes c.in-Some.rest.now) (string_bytes c.in-Some.word.now) c.as_str-text.result.now
    None (ap (map string_bytes) c.in-Some.ensures.cases.0) c.as_str-text.ensures.value (search rules) c.in_default-behind_option.ensures)

pub loop-word-preserved : goal.loop-word-preserved
loop-word-preserved c = c.loop-word.invariant ∙ form-option (map string_bytes c.loop-word.left.now) (map string_bytes c.in-Some.rest.now) (string_bytes c.in-Some.word.now) c.as_str-text.result.now
    (Some (map string_bytes c.in-Some-behind_option.behind.now)) (ap (map string_bytes) c.in-Some.ensures.cases.0) c.as_str-text.ensures.value (search rules) c.in-Some-behind_option.ensures

pub returns : goal.returns
returns c = form-end ∙ sym (c.loop-word.invariant ∙ ap (λ ws. is_some (positionals_of (map string_bytes ws))) (nil_from_length c.loop-word.left.now c.in_default.ensures.cases))
