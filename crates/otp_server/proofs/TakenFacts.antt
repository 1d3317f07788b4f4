-- The messages that words bring, one word more.
use Rattle.std.proofs.Common.{◌≡◌, ℕ, ◌+◌, ◌<◌, ◌≤◌, List, [], ◌∷◌, ◌++◌, length, take, drop, get_or, Option, sym, ap, subst, ◌∙◌, arith}
use Rattle.std.proofs.lemmas.List.{drop_more, length-append, length-map, length-take, map-append, map_more, take-append-drop}
use Rattle.std.specs.List.{All}
use Rattle.command_words.specs.Messages.{AskedMessage, IsOf, all_asked, asked_by}
use Rattle.command_words.specs.declared.messages.MessageWord.{MessageWord}
use Rattle.otp_base.specs.declared.folder.FileEntry.{FileEntry}
use Rattle.otp_model.specs.declared.message.Message.{Message}
use Rattle.otp_model.specs.declared.timetable.Feed.{Feed}
use Rattle.otp_server.specs.Messages.{BringAll, Brings, IsAfter, IsAfterSome, IsAfterWords, IsStopped, IsTakenBy, IsTakenWord, IsUntakenBy, IsUntakenWord, IsWordOf, Told}
use Rattle.otp_server.specs.declared.committed.Committed.{Committed}
use Rattle.otp_server.specs.declared.messages.Stop.{Stop}
use Rattle.otp_server.specs.declared.messages.Stop.TheVariants as stops
use Rattle.otp_server.specs.declared.refusal.Untaken.{Untaken}

bring_more : (files : Option (List FileEntry)) (told : List Told) (words : List AskedMessage) (now : List Told) (asked : AskedMessage) (message : Message)
    → BringAll files told words now → Brings files now asked message → BringAll files told (words ++ asked ∷ []) (now ++ (asked.feed, message) ∷ [])
bring_more files told [] now asked message h k = (message, subst (λ t. Brings files t asked message) h k, ap (λ t. t ++ (asked.feed, message) ∷ []) h)
bring_more files told (word ∷ words) now asked message h k = (h.0, h.1, bring_more files (told ++ (word.feed, h.0) ∷ []) words now asked message h.2 k)

-- each word brings one message
brought_length : (files : Option (List FileEntry)) (told : List Told) (words : List AskedMessage) (now : List Told) → BringAll files told words now → length now ≡ length told + length words
brought_length files told [] now h = let e = ap length h in omega (arith, e)
brought_length files told (word ∷ words) now h =
    let rest = brought_length files (told ++ (word.feed, h.0) ∷ []) words now h.2 in
    let one = length-append told ((word.feed, h.0) ∷ []) in
    omega (arith, rest, one)

pub told_length : (files : Option (List FileEntry)) (words : List AskedMessage) (told : List Told) → BringAll files [] words told → length told ≡ length words
told_length files words told h = let l = brought_length files [] words told h in omega (arith, l)

pub word_of : (feeds count : ℕ) (words : List MessageWord) (place : ℕ) (d : MessageWord) → All (IsOf feeds) words → count ≡ feeds → place < length words → IsWordOf count (get_or words place d)
word_of feeds count words place d all same less =
    let of = all place d less in
    record { first = of.0; last = subst (λ n. (get_or words place d).feed_no ≤ n) (sym same) of.1 }

module _ (files : Option (List FileEntry)) (feed : Feed) (feeds : ℕ) (words : List MessageWord) (place : ℕ) (less : place < length words) where
  -- the words up to a place are few enough to be counted
  pub some_after : (kept : Committed) → length words ≤ 1000 → IsAfterWords files feed feeds (all_asked (take place words)) kept → IsAfterSome feed feeds kept
  some_after kept few h =
      let l = told_length files (all_asked (take place words)) h.told h.brought in
      let m = length-map (take place words) asked_by in
      let n = length-take place words in
      record { told = h.told; few = omega (arith, l, m, n, few, less); after = h.after }

  pub told_after : (kept : Committed) (h : IsAfterWords files feed feeds (all_asked (take place words)) kept) → length kept.buffer ≡ feeds → IsAfter feed (length kept.buffer) h.told kept
  told_after kept h same = subst (λ n. IsAfter feed n h.told kept) (sym same) h.after

  pub after_more : (d : MessageWord) (now : Option (List FileEntry)) (kept next : Committed) (h : IsAfterWords files feed feeds (all_asked (take place words)) kept)
      → now ≡ files → length kept.buffer ≡ feeds → IsTakenBy now feed (length kept.buffer) h.told (get_or words place d) next
      → IsAfterWords files feed feeds (all_asked (take (place + 1) words)) next
  after_more d now kept next h same count by =
      let asked = asked_by (get_or words place d) in
      let k = subst (λ (fs : Option (List FileEntry)). IsTakenWord fs feed feeds h.told asked next) same (subst (λ n. IsTakenWord now feed n h.told asked next) count by.taken) in
      record {
        told = h.told ++ (asked.feed, k.message) ∷ [];
        brought = subst (λ ws. BringAll files [] ws (h.told ++ (asked.feed, k.message) ∷ [])) (sym (map_more asked_by words place d less))
            (bring_more files [] (all_asked (take place words)) h.told asked k.message h.brought k.brings);
        after = k.after;
      }

  pub stopped_at : (d : MessageWord) (now : Option (List FileEntry)) (kept : Committed) (stop : Stop) (why : Untaken) (h : IsAfterWords files feed feeds (all_asked (take place words)) kept)
      → now ≡ files → IsUntakenBy now h.told (get_or words place d) stop → stop ≡ stops.Untaken why → IsStopped files (all_asked words) (place + 1) why
  stopped_at d now kept stop why h same by is = record {
    front = all_asked (take place words);
    asked = asked_by (get_or words place d);
    rest = all_asked (drop (place + 1) words);
    words_are = ap all_asked (sym (take-append-drop place words) ∙ ap (λ rest. take place words ++ rest) (drop_more words place d less))
        ∙ map-append asked_by (take place words) (get_or words place d ∷ drop (place + 1) words);
    place_is = (let m = length-map (take place words) asked_by in let n = length-take place words in omega (arith, m, n, less));
    told = h.told;
    brought = h.brought;
    untaken = subst (IsUntakenWord files h.told (asked_by (get_or words place d))) is
        (subst (λ (fs : Option (List FileEntry)). IsUntakenWord fs h.told (asked_by (get_or words place d)) stop) same by.untaken);
  }
