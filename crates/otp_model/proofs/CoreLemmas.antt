-- Each event keeps what holds of every trace.
use Rattle.std.proofs.Common.{◌≡◌, ◌==◌, ℕ, zero, suc, ◌+◌, ◌^◌, ◌<◌, ◌≤◌, inl, inr, Bool, true, false, List, [], ◌∷◌, ◌++◌, length, map, drop, Option, Some, None, refl, sym, ap, subst, ◌∙◌, arith, append_assoc, if◌then◌else◌}
use Rattle.std.specs.Prelude.{nat_le, nat_lt, replicate, slice_get}
use Rattle.std.specs.List.{All, AllPairs, Contains, find}
use Rattle.std.specs.Option.{option_map, option_map_or}
use Rattle.std.proofs.lemmas.Bool.Decides.{nat_tests}
use Rattle.std.proofs.lemmas.Grind.{flat_map-append}
use Rattle.std.proofs.lemmas.List.{append-nil}
use Rattle.std.proofs.lemmas.List.Elements.{All-cons, All-contains, All-head, All-nil, All-push, All-tail, All-weaker, Contains-append_left, Contains-append_right, Contains-push}
use Rattle.std.proofs.lemmas.List.Quantifiers.{all_pairs_push}
use mathlib.Core.List.{IsPrefix}
use Rattle.otp_model.specs.Core.{Accept, Answer, Core, Entry, Event, Extends, History, Open, Plan, Publish, Query, Response, Session, Status, Take, Trace, after, answer_response, answering, first_known, fresh_trace, keep, keep_for, keep_known, keep_unless, kept_after, kept_at, newest, offered_response, opened, pinned_in, response, taking, trace_from, traced}
use Rattle.otp_model.specs.Desk.{Acceptance, Accepted, DeskState, Older, Slot, Spent, above_of, acceptance, accepts, commits, commits_of, counted, emptied, fresh_slot, numbered, offered, offered_at, pending_from, pending_in, published, slot_after, slot_at}
use Rattle.otp_model.specs.Moves.{first_of}
use Rattle.otp_model.specs.OneHistory.{AreAnswered, HasOneHistory, IsAnswered, IsAnsweredAfter, IsOneFeed, IsOneSession, IsPart, accepted_by, accepted_in, last_of, listed, messages_of, pending_at, stamp_of, stamps_of, taken_after, taken_by, taken_in, taken_open, taken_since, under}
use Rattle.otp_model.specs.declared.message.Commit.{Commit}
use Rattle.otp_model.specs.declared.message.Message.{Message}
use Rattle.otp_model.proofs.JudgedLemmas.{by_test}

-- beginnings of lists

pub prefix_self : {X : Type 0} (xs : List X) → IsPrefix xs xs
prefix_self xs = ([], append-nil xs)

pub prefix_trans : {X : Type 0} (xs ys zs : List X) → IsPrefix xs ys → IsPrefix ys zs → IsPrefix xs zs
prefix_trans xs ys zs p q = (p.0 ++ q.0, sym (append_assoc xs p.0 q.0) ∙ (ap (λ w. w ++ q.0) p.1 ∙ q.1))

pub extends_longer : (h g : History) (known : List History) → IsPrefix h g → Extends h known → Extends g known
extends_longer h g known p = All-weaker (λ k. IsPrefix k h) (λ k. IsPrefix k g) (λ k q. prefix_trans k h g q p) known

-- last elements

last_push : {X : Type 0} (xs : List X) (x : X) → last_of (xs ++ x ∷ []) ≡ Some x
last_push [] x = refl
last_push (y ∷ []) x = refl
last_push (y ∷ z ∷ xs) x = last_push (z ∷ xs) x

last_in : {X : Type 0} (xs : List X) (x : X) → last_of xs ≡ Some x → Contains xs x
last_in [] x e = absurd cc
last_in (y ∷ []) x e = let same : y ≡ x = cc in subst (λ z. Contains (y ∷ []) z) same (Contains-push [] y)
last_in (y ∷ z ∷ xs) x e = Contains-append_right (y ∷ []) (z ∷ xs) x (last_in (z ∷ xs) x e)

none_last : {X : Type 0} (xs : List X) → last_of xs ≡ None → xs ≡ []
none_last [] e = refl
none_last (x ∷ []) e = absurd cc
none_last (x ∷ y ∷ xs) e = absurd (let more = none_last (y ∷ xs) e in cc)

-- what `find` gives is there, and passes the test
found_there : {X : Type 0} (test : X → Bool) (xs : List X) (x : X) → find test xs ≡ Some x → (test x ≡ true) × Contains xs x
found_there test [] x e = absurd cc
found_there test (y ∷ xs) x e =
    by_test (test y)
    (λ t. let same : y ≡ x = let h = rw t at e in cc in (subst (λ z. test z ≡ true) same t, subst (λ z. Contains (y ∷ xs) z) same (Contains-append_left (y ∷ []) xs y (Contains-push [] y))))
    (λ f. let rest = found_there test xs x (rw f at e) in (rest.0, Contains-append_right (y ∷ []) xs x rest.1))

-- what a session keeps

all_newest : (P : History → Type 0) (kept : List History) → All P kept → All P (newest kept)
all_newest P kept h = by_test (nat_le (length kept) 8) (λ t. rw t h) (λ f. rw f (all_dropped P kept h))
  where
    all_dropped : (P : History → Type 0) (kept : List History) → All P kept → All P (drop 1 kept)
    all_dropped P [] h = h
    all_dropped P (history ∷ kept) h = All-tail P history kept h

all_keep : (P : History → Type 0) (kept : List History) (history : History) → All P kept → P history → All P (keep kept history)
all_keep P kept history h p = unless (kept_at (length history) kept)
  where
    unless : (there : Option History) → All P (keep_unless there kept history)
    unless (Some earlier) = h
    unless None = all_newest P (kept ++ history ∷ []) (All-push P kept history h p)

all_keep_for : (P : History → Type 0) (query : Query) (pinned : Option History) (session : Session) → All P session.kept → All P session.known
    → All P (keep_for query pinned session)
all_keep_for P Status pinned session h known = h
all_keep_for P (Plan number) (Some there) session h known = h
all_keep_for P (Plan number) None session h known = from session.known known
  where
    from : (known : List History) → All P known → All P (keep_known session.kept known)
    from [] k = h
    from (history ∷ rest) k = all_keep P session.kept history h (All-head P history rest k)

all_kept_after : (P : History → Type 0) (query : Query) (session : Session) → All P session.kept → (session.taken ≡ true → All P session.known)
    → All P (kept_after query session)
all_kept_after P query session h known = chosen session.taken known
  where
    chosen : (taken : Bool) → (taken ≡ true → All P session.known) → All P (if taken then keep_for query (pinned_in query session.kept) session else session.kept)
    chosen true known = all_keep_for P query (pinned_in query session.kept) session h (known refl)
    chosen false known = h

-- what a session has taken

taken_push : (session : ℕ) (entries : List Entry) (event : Event) (told : Response)
    → taken_in session (entries ++ record { event = event; response = told } ∷ []) ≡ taken_in session entries ++ taken_by session event told
taken_push session entries event told =
    flat_map-append (λ (entry : Entry). taken_by session entry.event entry.response) entries (record { event = event; response = told } ∷ [])
    ∙ ap (λ z. taken_in session entries ++ z) (append-nil (taken_by session event told))

accepted_push : (number : ℕ) (entries : List Entry) (event : Event) (told : Response)
    → accepted_in number (entries ++ record { event = event; response = told } ∷ []) ≡ accepted_in number entries ++ accepted_by number event told
accepted_push number entries event told =
    flat_map-append (λ (entry : Entry). accepted_by number entry.event entry.response) entries (record { event = event; response = told } ∷ [])
    ∙ ap (λ z. accepted_in number entries ++ z) (append-nil (accepted_by number event told))

since_push : (session : ℕ) (taken : List History) (entries : List Entry) (event : Event) (told : Response)
    → taken_since session taken (entries ++ record { event = event; response = told } ∷ []) ≡ taken_after session (taken_since session taken entries) event told
unfolding taken_since
since_push session taken [] event told = refl
since_push session taken (entry ∷ entries) event told = since_push session (taken_after session taken entry.event entry.response) entries event told

answered_push : (before entries : List Entry) (entry : Entry) → AreAnswered before entries → IsAnsweredAfter (before ++ entries) entry.event entry.response
    → AreAnswered before (entries ++ entry ∷ [])
unfolding AreAnswered
answered_push before [] entry h told = (subst (λ z. IsAnsweredAfter z entry.event entry.response) (append-nil before) told, tt)
answered_push before (first ∷ entries) entry h told = (
  h.0,
  answered_push (before ++ first ∷ []) entries entry h.1
      (subst (λ z. IsAnsweredAfter z entry.event entry.response) (sym (append_assoc before (first ∷ []) entries)) told),
)

-- a session with what it took since it was opened: once it has taken something its pass knows the last of it
abbrev IsViewed : Bool → List History → List History → Type 0
IsViewed false known taken = taken ≡ []
IsViewed true known taken = (history : History) × (known ≡ history ∷ []) × (last_of taken ≡ Some history)

record IsHeld (published : History) (session : Session) (open_taken all_taken : List History) : Type 0 where
  one : IsOneSession published session open_taken
  viewed : IsViewed session.taken session.known open_taken
  taken : Extends published all_taken
  grow : AllPairs IsPrefix all_taken

-- where a session does nothing, the published history may grow
rests : (published later : History) (session : Session) (open_taken taken : List History) → IsPrefix published later
    → IsHeld published session open_taken taken → IsHeld later session (open_taken ++ []) (taken ++ [])
rests published later session open_taken taken grows h = rw (append-nil open_taken, append-nil taken) (record {
  one = record {
    known = extends_longer published later session.known grows h.one.known;
    kept = extends_longer published later session.kept grows h.one.kept;
    recent = h.one.recent;
  };
  viewed = h.viewed;
  taken = extends_longer published later taken grows h.taken;
  grow = h.grow;
})

opens : (published : History) (session : Session) (open_taken taken : List History) → IsHeld published session open_taken taken
    → IsHeld published (opened session) [] (taken ++ [])
opens published session open_taken taken h = rw (append-nil taken) (record {
  one = record { known = h.one.known; kept = All-nil _; recent = All-nil _ };
  viewed = refl;
  taken = h.taken;
  grow = h.grow;
})

takes : (published : History) (session : Session) (open_taken taken : List History) → IsHeld published session open_taken taken
    → IsHeld published (taking published session) (open_taken ++ published ∷ []) (taken ++ published ∷ [])
takes published session open_taken taken h = record {
  one = record {
    known = All-cons (λ k. IsPrefix k published) published [] (prefix_self published) (All-nil _);
    kept = h.one.kept;
    recent = All-weaker (Contains open_taken) (Contains (open_taken ++ published ∷ [])) (λ k there. Contains-append_left open_taken (published ∷ []) k there) session.kept h.one.recent;
  };
  viewed = (published, refl, last_push open_taken published);
  taken = All-push (λ k. IsPrefix k published) taken published h.taken (prefix_self published);
  grow = all_pairs_push IsPrefix taken published h.grow (λ k d less. h.taken k d less);
}

-- once it took a view a session's known history is one that it took since it was opened
known_taken : (session : Session) (open_taken : List History) (taken : Bool) → taken ≡ true → IsViewed taken session.known open_taken
    → All (Contains open_taken) session.known
known_taken session open_taken true e h = let there = last_in open_taken h.0 h.2 in
    rw h.1 (All-cons (Contains open_taken) h.0 [] there (All-nil _))
known_taken session open_taken false e h = absurd cc

answers : (query : Query) (published : History) (session : Session) (open_taken taken : List History) → IsHeld published session open_taken taken
    → IsHeld published (answering query session) (open_taken ++ []) (taken ++ [])
answers query published session open_taken taken h = rw (append-nil open_taken, append-nil taken) (record {
  one = record {
    known = h.one.known;
    kept = all_kept_after (λ k. IsPrefix k published) query session h.one.kept (λ t. h.one.known);
    recent = all_kept_after (Contains open_taken) query session h.one.recent (λ t. known_taken session open_taken session.taken t h.viewed);
  };
  viewed = h.viewed;
  taken = h.taken;
  grow = h.grow;
})

-- a query is answered over the last history that was taken, or over the kept one that it is pinned to
answered_by : (query : Query) (session : Session) (open_taken : List History) (taken : Bool) → IsViewed taken session.known open_taken
    → All (Contains open_taken) session.kept
    → IsAnswered open_taken query (answer_response (if taken then first_of (pinned_in query session.kept) (first_known session.known) else None))
answered_by query session open_taken false h recent = h
answered_by query session open_taken true h recent = over query (pinned_in query session.kept) refl
  where
    over : (query : Query) (pinned : Option History) → pinned_in query session.kept ≡ pinned
        → IsAnswered open_taken query (answer_response (first_of pinned (first_known session.known)))
    over query None e = rw h.1 (inl h.2)
    over Status (Some there) e = absurd cc
    over (Plan None) (Some there) e = absurd cc
    over (Plan (Some number)) (Some there) e =
        let found = found_there (λ (history : History). length history == number) session.kept there e in
        let long : length there ≡ number = let t = found.0 in grind (arith, nat_tests) in
        inr (long, All-contains (Contains open_taken) session.kept there recent found.1)

-- messages of one real-time feed

part_front : (xs ys zs : List Message) → IsPart (xs ++ ys) zs → IsPart xs zs
part_front [] ys zs p = tt
part_front (x ∷ xs) ys [] p = p
part_front (x ∷ xs) ys (z ∷ zs) p =
    elim p [
      | inl t ↦ inl (t.0, part_front xs ys zs t.1)
      | inr t ↦ inr (part_front (x ∷ xs) ys zs t)
    ]

part_push : (xs zs : List Message) (m : Message) → IsPart xs zs → IsPart (xs ++ m ∷ []) (zs ++ m ∷ [])
part_push [] [] m p = inl (refl, tt)
part_push [] (z ∷ zs) m p = inr (part_push [] zs m tt)
part_push (x ∷ xs) [] m p = absurd p
part_push (x ∷ xs) (z ∷ zs) m p =
    elim p [
      | inl t ↦ inl (t.0, part_push xs zs m t.1)
      | inr t ↦ inr (part_push (x ∷ xs) zs m t)
    ]

under_append : (number : ℕ) (ms ns : List (ℕ × Message)) → under number (ms ++ ns) ≡ under number ms ++ under number ns
unfolding under
under_append number [] ns = refl
under_append number (m ∷ ms) ns = by_test (number == m.0)
    (λ t. rw t (ap (λ z. m.1 ∷ z) (under_append number ms ns)))
    (λ f. rw f (under_append number ms ns))

under_own : (number : ℕ) (message : Option Message) → under number (numbered number message) ≡ listed message
unfolding under
under_own number None = refl
under_own number (Some message) = let t : (number == number) ≡ true = grind (arith, nat_tests) in rw t refl

under_other : (number other : ℕ) (message : Option Message) → (number == other) ≡ false → under number (numbered other message) ≡ []
unfolding under
under_other number other None e = refl
under_other number other (Some message) e = rw e refl

-- feeds from a later number on have nothing under an earlier one
under_later : (number first : ℕ) (slots : List Slot) → number < first → under number (pending_from first slots) ≡ []
unfolding under pending_from
under_later number first [] h = refl
under_later number first (slot ∷ slots) h =
    let other : (number == first) ≡ false = grind (arith, nat_tests) in
    under_append number (numbered first slot.pending) (pending_from (suc first) slots)
    ∙ (ap (λ z. z ++ under number (pending_from (suc first) slots)) (under_other number first slot.pending other)
    ∙ under_later number (suc first) slots (omega arith))

abbrev pending_here : Option Slot → Option Message
pending_here slot = option_map_or (λ (slot : Slot). slot.pending) slot None

-- of the feed at a place
under_at : (number first place : ℕ) (slots : List Slot) → number ≡ first + place → under number (pending_from first slots) ≡ listed (pending_here (slice_get slots place))
unfolding under pending_from
under_at number first place [] e = refl
under_at number first zero (slot ∷ slots) e =
    let same : number ≡ first = omega arith in
    under_append number (numbered first slot.pending) (pending_from (suc first) slots)
    ∙ (ap (λ z. under number (numbered first slot.pending) ++ z) (under_later number (suc first) slots (omega arith))
    ∙ (append-nil (under number (numbered first slot.pending)) ∙ (ap (λ (n : ℕ). under n (numbered first slot.pending)) same ∙ under_own first slot.pending)))
under_at number first (suc place) (slot ∷ slots) e =
    let other : (number == first) ≡ false = grind (arith, nat_tests) in
    under_append number (numbered first slot.pending) (pending_from (suc first) slots)
    ∙ (ap (λ z. z ++ under number (pending_from (suc first) slots)) (under_other number first slot.pending other)
    ∙ under_at number (suc first) place slots (omega arith))

-- the pending messages have of each feed what it has pending
under_pending : (number : ℕ) (slots : List Slot) → under number (pending_in slots) ≡ listed (pending_at number slots)
under_pending zero slots = under_later 0 1 slots (omega arith)
under_pending (suc place) slots = under_at (suc place) 1 place slots (omega arith)

messages_push : (number : ℕ) (history : History) (commit : Commit) → messages_of number (history ++ commit ∷ []) ≡ messages_of number history ++ under number commit.messages
messages_push number history commit =
    flat_map-append (λ (commit : Commit). under number commit.messages) history (commit ∷ [])
    ∙ ap (λ z. messages_of number history ++ z) (append-nil (under number commit.messages))

-- no timestamp that was accepted is above the kept one
abbrev IsKept : Option ℕ → List ℕ → Type 0
IsKept None stamps = stamps ≡ []
IsKept (Some kept) stamps = All (λ stamp. stamp ≤ kept) stamps

abbrev timestamp_here : Option Slot → Option ℕ
timestamp_here slot = option_map_or (λ (slot : Slot). slot.timestamp) slot None

-- what holds of a feed with this slot, whose committed messages and all accepted ones are these
record IsFed (slot : Option Slot) (committed accepted : List Message) : Type 0 where
  one : IsOneFeed (committed ++ listed (pending_here slot)) accepted
  kept : IsKept (timestamp_here slot) (stamps_of accepted)

stamps_push : (accepted : List Message) (message : Message) → stamps_of (accepted ++ message ∷ []) ≡ stamps_of accepted ++ stamp_of message
stamps_push accepted message =
    flat_map-append stamp_of accepted (message ∷ []) ∙ ap (λ z. stamps_of accepted ++ z) (append-nil (stamp_of message))

-- a timestamp that isn't below the kept one
record IsLater (stamps : List ℕ) (kept : Option ℕ) : Type 0 where
  rise : AllPairs (λ (a b : ℕ). a ≤ b) stamps
  within : IsKept kept stamps

later_stamp : (stamps : List ℕ) (kept timestamp : Option ℕ) → above_of kept timestamp ≡ None → AllPairs (λ (a b : ℕ). a ≤ b) stamps → IsKept kept stamps
    → IsLater (stamps ++ option_map_or (λ (time : ℕ). time ∷ []) timestamp []) (first_of timestamp kept)
later_stamp stamps kept None e rise within = rw (append-nil stamps) (record { rise = rise; within = within })
later_stamp stamps None (Some time) e rise within = rw within (record {
  rise = all_pairs_push (λ (a b : ℕ). a ≤ b) [] time (λ i j d less far. absurd (omega arith)) (λ k d less. absurd (omega arith));
  within = All-cons (λ stamp. stamp ≤ time) time [] (omega arith) (All-nil _);
})
later_stamp stamps (Some kept) (Some time) e rise within = by_test (nat_lt time kept)
    (λ t. absurd (let never : ◌≡◌ {A = Option ℕ} (Some kept) None = rw t at e in cc))
    (λ f.
    let most : kept ≤ time = grind (arith, nat_tests) in
    record {
      rise = all_pairs_push (λ (a b : ℕ). a ≤ b) stamps time rise (λ k d less. let least = within k d less in omega arith);
      within = All-push (λ stamp. stamp ≤ time) stamps time (All-weaker (λ stamp. stamp ≤ kept) (λ stamp. stamp ≤ time) (λ stamp least. omega arith) stamps within) (omega arith);
    })

-- an accepted message is the last of its feed
feeds_one : (slot : Slot) (committed accepted : List Message) (message : Message) (count : ℕ) → above_of slot.timestamp message.timestamp ≡ None
    → IsFed (Some slot) committed accepted
    → IsFed (Some (record { accepted = count; timestamp = first_of message.timestamp slot.timestamp; pending = Some message })) committed (accepted ++ message ∷ [])
feeds_one slot committed accepted message count e h =
    let later = later_stamp (stamps_of accepted) slot.timestamp message.timestamp e h.one.rise h.kept in
    record {
      one = record {
        part = part_push committed accepted message (part_front committed (listed slot.pending) accepted h.one.part);
        last = last_push committed message ∙ sym (last_push accepted message);
        rise = rw (stamps_push accepted message) later.rise;
      };
      kept = rw (stamps_push accepted message) later.within;
    }

-- what a feed accepts when it is offered a message
abbrev gained : Option Acceptance → Message → List Message
gained None message = []
gained (Some (Accepted count)) message = message ∷ []
gained (Some (Older have)) message = []
gained (Some Spent) message = []

feeds_offered : (slot : Option Slot) (committed accepted : List Message) (message : Message) → IsFed slot committed accepted
    → IsFed (option_map (offered message) slot) committed (accepted ++ gained (option_map (λ slot. acceptance slot message) slot) message)
feeds_offered None committed accepted message h = rw (append-nil accepted) h
feeds_offered (Some slot) committed accepted message h = by_above (above_of slot.timestamp message.timestamp) refl
  where
    by_above : (above : Option ℕ) → above_of slot.timestamp message.timestamp ≡ above
        → IsFed (Some (slot_after (counted above slot.accepted) message slot)) committed (accepted ++ gained (Some (counted above slot.accepted)) message)
    by_above (Some have) e = rw (append-nil accepted) h
    by_above None e = by_test (nat_lt slot.accepted (2 ^ 40))
        (λ t. rw t (feeds_one slot committed accepted message (slot.accepted + 1) e h))
        (λ f. rw (f, append-nil accepted) h)

-- the slot of a feed after an offer

same_after : (a b : ℕ) → (suc a == suc b) ≡ (a == b)
same_after a b = by_test (a == b)
    (λ t. let more : (suc a == suc b) ≡ true = grind (arith, nat_tests) in more ∙ sym t)
    (λ f. let more : (suc a == suc b) ≡ false = grind (arith, nat_tests) in more ∙ sym f)

not_first : (a : ℕ) → (suc a == 0) ≡ false
not_first a = grind (arith, nat_tests)

not_later : (a : ℕ) → (0 == suc a) ≡ false
not_later a = grind (arith, nat_tests)

at_offered : (place : ℕ) (message : Message) (slots : List Slot) (at : ℕ)
    → slice_get (offered_at place message slots) at ≡ (if at == place then option_map (offered message) (slice_get slots at) else slice_get slots at)
unfolding offered_at
at_offered place message [] at = by_test (at == place) (λ t. rw t refl) (λ f. rw f refl)
at_offered zero message (slot ∷ slots) zero = refl
at_offered zero message (slot ∷ slots) (suc at) = rw (not_first at) refl
at_offered (suc place) message (slot ∷ slots) zero = rw (not_later place) refl
at_offered (suc place) message (slot ∷ slots) (suc at) = rw (same_after at place) (at_offered place message slots at)

slot_offered : (feed : ℕ) (message : Message) (desk : DeskState) (number : ℕ)
    → slot_at number (accepts feed message desk).slots ≡ (if number == feed then option_map (offered message) (slot_at number desk.slots) else slot_at number desk.slots)
slot_offered zero message desk zero = refl
slot_offered zero message desk (suc place) = rw (not_first place) refl
slot_offered (suc feed) message desk zero = rw (not_later feed) refl
slot_offered (suc feed) message desk (suc place) = rw (same_after place feed) (at_offered feed message desk.slots place)

history_accepts : (feed : ℕ) (message : Message) (desk : DeskState) → (accepts feed message desk).history ≡ desk.history
history_accepts zero message desk = refl
history_accepts (suc place) message desk = refl

gained_here : (number feed : ℕ) (message : Message) (acceptance : Option Acceptance) → (number == feed) ≡ true
    → accepted_by number (Accept feed message) (offered_response acceptance) ≡ gained acceptance message
gained_here number feed message None e = refl
gained_here number feed message (Some (Accepted count)) e = rw e refl
gained_here number feed message (Some (Older have)) e = refl
gained_here number feed message (Some Spent) e = refl

gained_elsewhere : (number feed : ℕ) (message : Message) (acceptance : Option Acceptance) → (number == feed) ≡ false
    → accepted_by number (Accept feed message) (offered_response acceptance) ≡ []
gained_elsewhere number feed message None e = refl
gained_elsewhere number feed message (Some (Accepted count)) e = rw e refl
gained_elsewhere number feed message (Some (Older have)) e = refl
gained_elsewhere number feed message (Some Spent) e = refl

accept_feeds : (number feed : ℕ) (message : Message) (desk : DeskState) (accepted : List Message) → IsFed (slot_at number desk.slots) (messages_of number desk.history) accepted
    → IsFed (slot_at number (accepts feed message desk).slots) (messages_of number (accepts feed message desk).history)
    (accepted ++ accepted_by number (Accept feed message) (offered_response (option_map (λ slot. acceptance slot message) (slot_at feed desk.slots))))
accept_feeds number feed message desk accepted h = rw (history_accepts feed message desk, slot_offered feed message desk number) (by_test (number == feed)
    (λ t.
    let same : feed ≡ number = grind (arith, nat_tests) in
    rw (t, same, gained_here number number message (option_map (λ slot. acceptance slot message) (slot_at number desk.slots)) (grind (arith, nat_tests)))
    (feeds_offered (slot_at number desk.slots) (messages_of number desk.history) accepted message h))
    (λ f. rw (f, gained_elsewhere number feed message (option_map (λ slot. acceptance slot message) (slot_at feed desk.slots)) f, append-nil accepted) h))

-- a feed once its pending message is committed
feeds_emptied : (slot : Option Slot) (committed accepted : List Message) → IsFed slot committed accepted
    → IsFed (option_map emptied slot) (committed ++ listed (pending_here slot)) accepted
feeds_emptied None committed accepted h = record {
  one = rw (append-nil (committed ++ [])) h.one;
  kept = h.kept;
}
feeds_emptied (Some slot) committed accepted h = record {
  one = rw (append-nil (committed ++ listed slot.pending)) h.one;
  kept = h.kept;
}

at_emptied : (slots : List Slot) (place : ℕ) → slice_get (map emptied slots) place ≡ option_map emptied (slice_get slots place)
at_emptied [] place = refl
at_emptied (slot ∷ slots) zero = refl
at_emptied (slot ∷ slots) (suc place) = at_emptied slots place

slot_emptied : (slots : List Slot) (number : ℕ) → slot_at number (map emptied slots) ≡ option_map emptied (slot_at number slots)
slot_emptied slots zero = refl
slot_emptied slots (suc place) = at_emptied slots place

commit_feeds : (number : ℕ) (pending : List (ℕ × Message)) (desk : DeskState) (accepted : List Message) → under number pending ≡ listed (pending_at number desk.slots)
    → IsFed (slot_at number desk.slots) (messages_of number desk.history) accepted
    → IsFed (slot_at number (commits_of pending desk).slots) (messages_of number (commits_of pending desk).history) accepted
commit_feeds number [] desk accepted e h = h
commit_feeds number (m ∷ pending) desk accepted e h = by_test (nat_lt (length desk.history) (2 ^ 40))
    (λ t. rw (t, slot_emptied desk.slots number, messages_push number desk.history (record { messages = m ∷ pending }), e)
    (feeds_emptied (slot_at number desk.slots) (messages_of number desk.history) accepted h))
    (λ f. rw f h)

history_commits : (pending : List (ℕ × Message)) (desk : DeskState) → IsPrefix desk.history (commits_of pending desk).history
history_commits [] desk = prefix_self desk.history
history_commits (m ∷ pending) desk = by_test (nat_lt (length desk.history) (2 ^ 40))
    (λ t. rw t (record { messages = m ∷ pending } ∷ [], refl))
    (λ f. rw f (prefix_self desk.history))

-- each event keeps what holds of each session and of each feed

keeps_session : (event : Event) (core : Core) (number : ℕ) (open_taken taken : List History) → IsHeld core.desk.history (core.sessions number) open_taken taken
    → IsHeld (after event core).desk.history ((after event core).sessions number) (taken_after number open_taken event (response event core))
    (taken ++ taken_by number event (response event core))
keeps_session (Accept feed message) core number open_taken taken h = rw (history_accepts feed message core.desk)
    (rests core.desk.history core.desk.history (core.sessions number) open_taken taken (prefix_self core.desk.history) h)
keeps_session Publish core number open_taken taken h =
    rests core.desk.history (commits core.desk).history (core.sessions number) open_taken taken (history_commits (pending_in core.desk.slots) core.desk) h
keeps_session (Open session) core number open_taken taken h = by_test (number == session)
    (λ t. rw t (opens core.desk.history (core.sessions number) open_taken taken h))
    (λ f. rw f (subst (λ z. IsHeld core.desk.history (core.sessions number) z (taken ++ [])) (append-nil open_taken)
    (rests core.desk.history core.desk.history (core.sessions number) open_taken taken (prefix_self core.desk.history) h)))
keeps_session (Take session) core number open_taken taken h = by_test (number == session)
    (λ t. rw t (takes core.desk.history (core.sessions number) open_taken taken h))
    (λ f. rw f (rests core.desk.history core.desk.history (core.sessions number) open_taken taken (prefix_self core.desk.history) h))
keeps_session (Answer session query) core number open_taken taken h = by_test (number == session)
    (λ t. rw t (answers query core.desk.history (core.sessions number) open_taken taken h))
    (λ f. rw f (rests core.desk.history core.desk.history (core.sessions number) open_taken taken (prefix_self core.desk.history) h))

keeps_feed : (event : Event) (core : Core) (number : ℕ) (accepted : List Message) → IsFed (slot_at number core.desk.slots) (messages_of number core.desk.history) accepted
    → IsFed (slot_at number (after event core).desk.slots) (messages_of number (after event core).desk.history) (accepted ++ accepted_by number event (response event core))
keeps_feed (Accept feed message) core number accepted h = accept_feeds number feed message core.desk accepted h
keeps_feed Publish core number accepted h = rw (append-nil accepted)
    (commit_feeds number (pending_in core.desk.slots) core.desk accepted (under_pending number core.desk.slots) h)
keeps_feed (Open session) core number accepted h = rw (append-nil accepted) h
keeps_feed (Take session) core number accepted h = rw (append-nil accepted) h
keeps_feed (Answer session query) core number accepted h = rw (append-nil accepted) h

record Holds (trace : Trace) : Type 0 where
  sessions : (number : ℕ) → IsHeld trace.core.desk.history (trace.core.sessions number) (taken_open number trace.entries) (taken_in number trace.entries)
  feeds : (number : ℕ) → IsFed (slot_at number trace.core.desk.slots) (messages_of number trace.core.desk.history) (accepted_in number trace.entries)
  answers : AreAnswered [] trace.entries

answers_event : (event : Event) (trace : Trace) → Holds trace → IsAnsweredAfter trace.entries event (response event trace.core)
answers_event (Accept feed message) trace h = tt
answers_event Publish trace h = tt
answers_event (Open session) trace h = tt
answers_event (Take session) trace h = tt
answers_event (Answer session query) trace h =
    let held = h.sessions session in
    answered_by query (trace.core.sessions session) (taken_open session trace.entries) (trace.core.sessions session).taken held.viewed held.one.recent

holds_more : (event : Event) (trace : Trace) → Holds trace → Holds (traced event trace)
holds_more event trace h = record {
  sessions = λ number. rw (since_push number [] trace.entries event (response event trace.core), taken_push number trace.entries event (response event trace.core))
      (keeps_session event trace.core number (taken_open number trace.entries) (taken_in number trace.entries) (h.sessions number));
  feeds = λ number. rw (accepted_push number trace.entries event (response event trace.core))
      (keeps_feed event trace.core number (accepted_in number trace.entries) (h.feeds number));
  answers = answered_push [] trace.entries (record { event = event; response = response event trace.core }) h.answers (answers_event event trace h);
}

holds_from : (events : List Event) (trace : Trace) → Holds trace → Holds (trace_from events trace)
unfolding trace_from
holds_from [] trace h = h
holds_from (event ∷ events) trace h = holds_from events (traced event trace) (holds_more event trace h)

-- in the beginning
fresh_feed : (feeds place : ℕ) → IsFed (slice_get (replicate feeds fresh_slot) place) [] []
fresh_feed zero place = record {
  one = record { part = tt; last = refl; rise = λ i j d less far. absurd (omega arith) };
  kept = refl;
}
fresh_feed (suc feeds) zero = record {
  one = record { part = tt; last = refl; rise = λ i j d less far. absurd (omega arith) };
  kept = refl;
}
fresh_feed (suc feeds) (suc place) = fresh_feed feeds place

holds_fresh : (feeds : ℕ) → Holds (fresh_trace feeds)
unfolding AreAnswered taken_since
holds_fresh feeds = record {
  sessions = λ number. record {
    one = record { known = All-nil _; kept = All-nil _; recent = All-nil _ };
    viewed = refl;
    taken = All-nil _;
    grow = λ i j d less far. absurd (omega arith);
  };
  feeds = λ number. fresh_at number;
  answers = tt;
}
  where
    fresh_at : (number : ℕ) → IsFed (slot_at number (replicate feeds fresh_slot)) [] []
    fresh_at zero = fresh_feed 0 0
    fresh_at (suc place) = fresh_feed feeds place

pub one_history : HasOneHistory
one_history feeds events =
    let h = holds_from events (fresh_trace feeds) (holds_fresh feeds) in
    record {
      sessions = λ number. (h.sessions number).one;
      grow = λ number. (h.sessions number).grow;
      feeds = λ number. (h.feeds number).one;
      answers = h.answers;
    }
