-- One step of each definition by recursion.
use Rattle.std.proofs.Common.{◌≡◌, ◌∙◌, ℕ, zero, suc, ◌+◌, ◌-◌, ◌*◌, ◌/◌, ◌%◌, ◌<◌, ◌≤◌, false, List, [], ◌∷◌, ◌++◌, refl, sym, ap, arith, nat_lt, inl, inr}
use Rattle.std.specs.Prelude.{◌==◌, if◌then◌else◌}
use Rattle.std.proofs.lemmas.Bool.{eq-eqb, eqb-true, false_from_ne_true, le-ltb, lt-ltb}
use Rattle.std.proofs.lemmas.List.{append_assoc}
use Rattle.feed_gen.specs.Draws.{draw, drawn, next, start_of, state_after}
use Rattle.feed_gen.specs.Files.{IsFile, IsTable}
use Rattle.feed_gen.specs.Lines.{before_trip, hop, stop_of, time_of}
use Rattle.feed_gen.specs.Messages.{after_entity, canceled, late, message_name, place_of, update_at}
use Rattle.feed_gen.specs.Tables.{call_row, call_text}
use Rattle.feed_gen.specs.Texts.{clock, joined, trip_id}
use Rattle.feed_gen.specs.Wire.{varint_in}

one_more : (n : ℕ) → n + 1 ≡ suc n
one_more n = omega arith

pub joined_suc : (f : ℕ → List ℕ) (n : ℕ) → joined f (suc n) ≡ joined f n ++ f n
unfolding joined
joined_suc f n = refl

joined_one : (f : ℕ → List ℕ) → joined f 1 ≡ f 0
unfolding joined
joined_one f = refl

-- one more text behind those that are there
pub joined_more : (f : ℕ → List ℕ) (n : ℕ) (before after text : List ℕ) → before ≡ joined f n → text ≡ f n → after ≡ before ++ text → after ≡ joined f (n + 1)
joined_more f n before after text is more now = now ∙ (λ i. is i ++ more i) ∙ sym (joined_suc f n) ∙ ap (joined f) (sym (one_more n))

pub joined_first : (f : ℕ → List ℕ) (text : List ℕ) → text ≡ f 0 → text ≡ joined f 1
joined_first f text is = is ∙ sym (joined_one f)

pub state_suc : (start n : ℕ) → state_after start (suc n) ≡ next (state_after start n)
unfolding state_after
state_suc start n = refl

-- the state behind one more draw
pub state_more : (start n before after : ℕ) → before ≡ state_after start n → after ≡ next before → after ≡ state_after start (suc n)
state_more start n before after is now = now ∙ ap next is ∙ sym (state_suc start n)

-- the draw that led to a state
pub draw_is : (seed part place state value below : ℕ) → state ≡ state_after (start_of seed part) (suc place) → value ≡ drawn state below → value ≡ draw seed part place below
draw_is seed part place state value below is now = now ∙ ap (λ s. drawn s below) is

-- ---- lines

stop_suc : (seed line call : ℕ) → stop_of seed line (suc call) ≡ hop (stop_of seed line call) (draw seed line (suc call) 4)
unfolding stop_of
stop_suc seed line call = refl

pub stop_first : (seed line : ℕ) → stop_of seed line 0 ≡ draw seed line 0 400
unfolding stop_of
stop_first seed line = refl

pub stop_more : (seed line call at way now : ℕ) → at ≡ stop_of seed line call → way ≡ draw seed line (suc call) 4 → now ≡ hop at way → now ≡ stop_of seed line (suc call)
stop_more seed line call at way now is drawn_is now_is = now_is ∙ (λ i. hop (is i) (drawn_is i)) ∙ sym (stop_suc seed line call)

time_suc : (seed line trip call : ℕ) → time_of seed line trip (suc call) ≡ time_of seed line trip call + (60 + draw seed line (before_trip trip + suc call) 120)
unfolding time_of
time_suc seed line trip call = refl

time_zero : (seed line trip : ℕ) → time_of seed line trip 0 ≡ 18000 + 600 * trip + draw seed line (before_trip trip) 300
unfolding time_of
time_zero seed line trip = refl

pub time_first : (seed line trip value : ℕ) → value ≡ draw seed line (before_trip trip) 300 → 18000 + 600 * trip + value ≡ time_of seed line trip 0
time_first seed line trip value is = ap (λ k. 18000 + 600 * trip + k) is ∙ sym (time_zero seed line trip)

pub time_more : (seed line trip call time value : ℕ) → time ≡ time_of seed line trip call → value ≡ draw seed line (before_trip trip + suc call) 120 → time + (60 + value) ≡ time_of seed line trip (suc call)
time_more seed line trip call time value is drawn_is = (λ i. is i + (60 + drawn_is i)) ∙ sym (time_suc seed line trip call)

pub call_row_is : (seed line trip call : ℕ) (id : List ℕ) (time stop sequence : ℕ) → id ≡ trip_id line trip → time ≡ time_of seed line trip call → stop ≡ stop_of seed line call → sequence ≡ suc call
    → call_text id (clock time) stop sequence ≡ call_row seed line trip call
call_row_is seed line trip call id time stop sequence id_is time_is stop_is sequence_is = λ i. call_text (id_is i) (clock (time_is i)) (stop_is i) (sequence_is i)

-- ---- varints

varint_zero : (n : ℕ) → varint_in 0 n ≡ n ∷ []
unfolding varint_in
varint_zero n = refl

varint_suc : (room n : ℕ) → varint_in (suc room) n ≡ (if nat_lt n 128 then n ∷ [] else (n % 128 + 128) ∷ varint_in room (n / 128))
unfolding varint_in
varint_suc room n = refl

-- a number of seven bits
pub varint_last : (room n : ℕ) → n < 128 → varint_in room n ≡ n ∷ []
varint_last zero n less = varint_zero n
varint_last (suc room) n less = varint_suc room n ∙ ap (λ b. if b then n ∷ [] else (n % 128 + 128) ∷ varint_in room (n / 128)) (lt-ltb n 128 less)

varint_first : (room n : ℕ) → 128 ≤ n → varint_in (suc room) n ≡ (n % 128 + 128) ∷ varint_in room (n / 128)
varint_first room n long = varint_suc room n ∙ ap (λ b. if b then n ∷ [] else (n % 128 + 128) ∷ varint_in room (n / 128)) (le-ltb n 128 long)

pub varint_more : (room n : ℕ) → n ≤ room → 128 ≤ n → varint_in room n ≡ (n % 128 + 128) ∷ varint_in (room - 1) (n / 128)
varint_more room n enough long =
    let is : room ≡ suc (room - 1) = omega (arith, enough, long) in
    ap (λ k. varint_in k n) is ∙ varint_first (room - 1) n long

-- a byte of a varint written
pub varint_turn : (room n : ℕ) (before after rest : List ℕ) → n ≤ room → 128 ≤ n → before ++ varint_in room n ≡ rest → after ≡ before ++ (n % 128 + 128) ∷ [] → after ++ varint_in (room - 1) (n / 128) ≡ rest
varint_turn room n before after rest enough long is now =
    ap (λ bytes. bytes ++ varint_in (room - 1) (n / 128)) now
    ∙ append_assoc before ((n % 128 + 128) ∷ []) (varint_in (room - 1) (n / 128))
    ∙ ap (λ bytes. before ++ bytes) (sym (varint_more room n enough long)) ∙ is

-- ---- messages

place_suc : (seed part entity : ℕ) → place_of seed part (suc entity) ≡ after_entity seed part (place_of seed part entity)
unfolding place_of
place_suc seed part entity = refl

pub place_more : (seed part entity : ℕ) → place_of seed part (entity + 1) ≡ after_entity seed part (place_of seed part entity)
place_more seed part entity = ap (place_of seed part) (one_more entity) ∙ place_suc seed part entity

pub canceled_is : (seed part place trip : ℕ) → draw seed part (suc place) 10 ≡ 0 → update_at seed part place trip ≡ canceled (trip / 100) (trip % 100)
canceled_is seed part place trip none =
    ap (λ b. if b then canceled (trip / 100) (trip % 100) else late (trip / 100) (trip % 100) (1 + draw seed part (suc (suc place)) 12) (draw seed part (suc (suc (suc place))) 900))
    (eq-eqb (draw seed part (suc place) 10) 0 none)

pub canceled_after : (seed part place : ℕ) → draw seed part (suc place) 10 ≡ 0 → after_entity seed part place ≡ suc (suc place)
canceled_after seed part place none =
    ap (λ b. if b then suc (suc place) else suc (suc (suc (suc place)))) (eq-eqb (draw seed part (suc place) 10) 0 none)

not_canceled : (n : ℕ) → (n ≡ 0 → ⊥) → (n == 0) ≡ false
not_canceled n some = false_from_ne_true (n == 0) (λ e. some (eqb-true n 0 e))

pub late_is : (seed part place trip : ℕ) → (draw seed part (suc place) 10 ≡ 0 → ⊥) → update_at seed part place trip ≡ late (trip / 100) (trip % 100) (1 + draw seed part (suc (suc place)) 12) (draw seed part (suc (suc (suc place))) 900)
late_is seed part place trip some =
    ap (λ b. if b then canceled (trip / 100) (trip % 100) else late (trip / 100) (trip % 100) (1 + draw seed part (suc (suc place)) 12) (draw seed part (suc (suc (suc place))) 900))
    (not_canceled (draw seed part (suc place) 10) some)

pub late_after : (seed part place : ℕ) → (draw seed part (suc place) 10 ≡ 0 → ⊥) → after_entity seed part place ≡ suc (suc (suc (suc place)))
late_after seed part place some =
    ap (λ b. if b then suc (suc place) else suc (suc (suc (suc place)))) (not_canceled (draw seed part (suc place) 10) some)

-- ---- files

-- a name of none of the kinds
pub no_file : (seed : ℕ) (name : List ℕ) → ((bytes : List ℕ) → IsTable seed name bytes → ⊥) → ((commit feed : ℕ) → 1 ≤ commit → commit ≤ 20 → 1 ≤ feed → feed ≤ 10 → name ≡ message_name commit feed → ⊥)
    → (bytes : List ℕ) → IsFile seed name bytes → ⊥
no_file seed name table message bytes (inl h) = table bytes h
no_file seed name table message bytes (inr h) = message h.commit h.feed h.first.0 h.last.0 h.first.1 h.last.1 h.name_is
