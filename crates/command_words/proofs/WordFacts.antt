-- The rules for words, one word at a time.
use Rattle.std.proofs.Common.{◌≡◌, ◌∙◌, ◌&&◌, ℕ, Bool, true, false, List, [], ◌∷◌, Option, Some, None, option_map, is_some, cond, refl, sym, ap}
use Rattle.otp_base.specs.Optionals.{◌>>=◌}
use Rattle.command_words.specs.Words.{behind_option, is_option, is_plain, positionals_of}

pub plain-first : (word : List ℕ) (rest : List (List ℕ)) → is_plain word ≡ true → positionals_of (word ∷ rest) ≡ option_map (λ xs. word ∷ xs) (positionals_of rest)
unfolding positionals_of
plain-first word [] p = rw p refl
plain-first word (next ∷ rest) p = rw p refl

option-first : (word : List ℕ) (rest : List (List ℕ)) → is_plain word ≡ false → positionals_of (word ∷ rest) ≡ (behind_option word rest >>= positionals_of)
unfolding positionals_of
option-first word [] p = rw p refl
option-first word (value ∷ rest) p = rw p (go (is_option word && is_plain value))
  where
    go : (b : Bool) → cond b (positionals_of rest) None ≡ (cond b (Some rest) None >>= positionals_of)
    go true = refl
    go false = refl

mapped : (word : List ℕ) (o : Option (List (List ℕ))) → is_some (option_map (λ xs. word ∷ xs) o) ≡ is_some o
mapped word None = refl
mapped word (Some xs) = refl

pub form-plain : (words rest : List (List ℕ)) (word text : List ℕ) → words ≡ word ∷ rest → text ≡ word → is_plain text ≡ true
    → is_some (positionals_of words) ≡ is_some (positionals_of rest)
form-plain words rest word text e t p =
    let plain : is_plain word ≡ true = rw (← t) p in
    ap (λ ws. is_some (positionals_of ws)) e ∙ ap is_some (plain-first word rest plain) ∙ mapped word (positionals_of rest)

pub form-option : (words rest : List (List ℕ)) (word text : List ℕ) (behind : Option (List (List ℕ))) → words ≡ word ∷ rest → text ≡ word → is_plain text ≡ false
    → behind ≡ behind_option text rest → is_some (positionals_of words) ≡ is_some (behind >>= positionals_of)
form-option words rest word text behind e t p b =
    let plain : is_plain word ≡ false = rw (← t) p in
    let is : behind ≡ behind_option word rest = rw (← t) b in
    ap (λ ws. is_some (positionals_of ws)) e ∙ ap is_some (option-first word rest plain) ∙ ap (λ o. is_some (o >>= positionals_of)) (sym is)

pub form-end : true ≡ is_some (positionals_of [])
unfolding positionals_of
form-end = refl
