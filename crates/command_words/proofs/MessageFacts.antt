-- Words that name messages, one word more.
use Rattle.std.proofs.Common.{◌≡◌, ℕ, ◌+◌, ◌<◌, Bor, List, [], ◌∷◌, ◌++◌, length, map, take, drop, get_or, Option, Some, None, option_map, refl, sym, ap, ◌∙◌}
use Rattle.std.proofs.lemmas.List.{drop_more, map-append, map_more, map_push, take-append-drop}
use Rattle.otp_base.specs.Optionals.{◌>>=◌}
use Rattle.command_words.specs.Messages.{AskedMessage, all_asked, asked_by, message_in, messages_in}
use Rattle.command_words.specs.declared.messages.MessageWord.{MessageWord}

abbrev joined : Option AskedMessage → Option (List AskedMessage) → Option (List AskedMessage)
joined first rest = first >>= λ message. rest >>= λ messages. Some (message ∷ messages)

-- what was joined
record IsJoined (first : Option AskedMessage) (rest : Option (List AskedMessage)) (found : List AskedMessage) : Type 0 where
  message : AskedMessage
  messages : List AskedMessage
  first_is : first ≡ Some message
  rest_is : rest ≡ Some messages
  found_is : found ≡ message ∷ messages

parts : (first : Option AskedMessage) (rest : Option (List AskedMessage)) (found : List AskedMessage) → joined first rest ≡ Some found → IsJoined first rest found
parts None rest found e = cc
parts (Some message) None found e = cc
parts (Some message) (Some messages) found e = record { message = message; messages = messages; first_is = refl; rest_is = refl; found_is = cc }

joined_is : (first : Option AskedMessage) (rest : Option (List AskedMessage)) (message : AskedMessage) (messages : List AskedMessage)
    → first ≡ Some message → rest ≡ Some messages → joined first rest ≡ Some (message ∷ messages)
joined_is first rest message messages e f = rw (e, f) refl

joined_none : (first : Option AskedMessage) (rest : Option (List AskedMessage)) (message : AskedMessage) → first ≡ Some message → rest ≡ None → joined first rest ≡ None
joined_none first rest message e f = rw (e, f) refl

-- words that name messages, and a word that names one
pub one_more : (feeds : ℕ) (words : List (List ℕ)) (found : List AskedMessage) (word : List ℕ) (message : AskedMessage)
    → messages_in feeds words ≡ Some found → message_in feeds word ≡ Some message → messages_in feeds (words ++ word ∷ []) ≡ Some (found ++ message ∷ [])
unfolding messages_in
one_more feeds [] [] word message e h = rw h refl
one_more feeds [] (x ∷ found) word message e h = cc
one_more feeds (w ∷ words) found word message e h =
    let p = parts (message_in feeds w) (messages_in feeds words) found e in
    joined_is (message_in feeds w) (messages_in feeds (words ++ word ∷ [])) p.message (p.messages ++ message ∷ []) p.first_is (one_more feeds words p.messages word message p.rest_is h)
    ∙ ap (λ xs. Some (xs ++ message ∷ [])) (sym p.found_is)

-- words that name messages, and one behind them that names none
pub none_there : (feeds : ℕ) (words rest : List (List ℕ)) (found : List AskedMessage) (word : List ℕ)
    → messages_in feeds words ≡ Some found → message_in feeds word ≡ None → messages_in feeds (words ++ word ∷ rest) ≡ None
unfolding messages_in
none_there feeds [] rest found word e h = rw h refl
none_there feeds (w ∷ words) rest found word e h =
    let p = parts (message_in feeds w) (messages_in feeds words) found e in
    joined_none (message_in feeds w) (messages_in feeds (words ++ word ∷ rest)) p.message p.first_is (none_there feeds words rest p.messages word p.rest_is h)

abbrev texts : List (Bor (List ℕ)) → List (List ℕ)
texts words = map (λ word. word.now) words

-- the same in a loop over words
pub read_more : (feeds : ℕ) (words : List (Bor (List ℕ))) (i : ℕ) (d : Bor (List ℕ)) (read more : List MessageWord) (message : MessageWord) (answer : Option MessageWord)
    → i < length words → messages_in feeds (texts (take i words)) ≡ Some (all_asked read) → option_map asked_by answer ≡ message_in feeds (get_or words i d).now
    → answer ≡ Some message → more ≡ read ++ message ∷ [] → messages_in feeds (texts (take (i + 1) words)) ≡ Some (all_asked more)
read_more feeds words i d read more message answer lt e h is grown =
    ap (messages_in feeds) (map_more (λ (word : Bor (List ℕ)). word.now) words i d lt)
    ∙ one_more feeds (texts (take i words)) (all_asked read) (get_or words i d).now (asked_by message) e (sym h ∙ ap (option_map asked_by) is)
    ∙ ap Some (sym (map_push asked_by read message) ∙ ap all_asked (sym grown))

pub read_none : (feeds : ℕ) (words : List (Bor (List ℕ))) (i : ℕ) (d : Bor (List ℕ)) (read : List MessageWord) (answer : Option MessageWord)
    → i < length words → messages_in feeds (texts (take i words)) ≡ Some (all_asked read) → option_map asked_by answer ≡ message_in feeds (get_or words i d).now
    → answer ≡ None → messages_in feeds (texts words) ≡ None
read_none feeds words i d read answer lt e h is =
    let whole : words ≡ take i words ++ get_or words i d ∷ drop (i + 1) words = sym (take-append-drop i words) ∙ ap (λ rest. take i words ++ rest) (drop_more words i d lt) in
    ap (λ ws. messages_in feeds (texts ws)) whole
    ∙ ap (messages_in feeds) (map-append (λ (word : Bor (List ℕ)). word.now) (take i words) (get_or words i d ∷ drop (i + 1) words))
    ∙ none_there feeds (texts (take i words)) (texts (drop (i + 1) words)) (all_asked read) (get_or words i d).now e (sym h ∙ ap (option_map asked_by) is)
