-- How the kept views stand for the kept histories.
use Rattle.std.proofs.Common.{◌≡◌, ◌≢◌, ℕ, ◌+◌, ◌≤◌, ◌==◌, suc, Bool, true, false, List, [], ◌∷◌, ◌++◌, length, drop, get_or, Option, Some, None, is_some, option_copied, option_map, nat_le, nat_lt, refl, sym, ◌∙◌, ap, subst, arith, eq-eqb, length-append}
use Rattle.std.specs.Borrow.{Bor}
use Rattle.std.specs.Global.{Vec}
use Rattle.std.specs.Vec.{vec_capacity}
use Rattle.std.specs.Prelude.{if◌then◌else◌, unwrap_or}
use Rattle.std.specs.List.{All, find}
use Rattle.std.proofs.lemmas.Bool.Decides.{nat_tests}
use Rattle.std.proofs.lemmas.List.{length-map, length_push, map-append}
use Rattle.std.proofs.lemmas.List.Elements.{All-cons, All-head, All-nil, All-tail, All-push}
use Rattle.std.proofs.lemmas.List.Quantifiers.{all_pairs_push}
use mathlib.Core.List.{IsPrefix}
use Rattle.otp_model.specs.Core.{Extends, History, first_known, keep_known, kept_at, newest}
use Rattle.otp_model.specs.declared.timetable.Feed.{Feed}
use Rattle.otp_model.proofs.JudgedLemmas.{by_test}
use Rattle.commit_history.specs.declared.pass.View.{View}
use Rattle.pin_ring.specs.Kept.{AreRising, Begins, IsTaken, IsViewOf, KeptView}
use Rattle.pin_ring.specs.Rings.{IsPin, IsRing, histories_of, history_of}
use Rattle.pin_ring.specs.declared.pin.Pin.{Pin}

abbrev has_number : ℕ → Pin → Bool
has_number number pin = pin.view.number == number

abbrev has_length : ℕ → History → Bool
has_length number history = length history == number

-- what `find` gives, and what it passes over

found_holds : {X : Type 0} (P : X → Type 0) (test : X → Bool) (xs : List X) (x : X) → All P xs → find test xs ≡ Some x → P x
found_holds P test [] x h e = absurd cc
found_holds P test (y ∷ xs) x h e =
    by_test (test y)
    (λ t. let same : y ≡ x = let found = rw t at e in cc in subst P same (All-head P y xs h))
    (λ f. found_holds P test xs x (All-tail P y xs h) (rw f at e))

none_passes : {X : Type 0} (test : X → Bool) (xs : List X) → find test xs ≡ None → All (λ x. test x ≡ false) xs
none_passes test [] e = All-nil (λ x. test x ≡ false)
none_passes test (x ∷ xs) e =
    by_test (test x)
    (λ t. absurd (let found = rw t at e in cc))
    (λ f. All-cons (λ y. test y ≡ false) x xs f (none_passes test xs (rw f at e)))

pub copied_there : {X : Type 0} (found : Option (Bor X)) (there : Bool) → is_some found ≡ there → is_some (option_copied found) ≡ there
copied_there None there e = e
copied_there (Some x) there e = e

-- the histories rise

begins_of : (earlier history : History) → IsPrefix earlier history → length earlier ≢ length history → Begins earlier history
begins_of earlier history p other = (p, omega (arith, other, ap length p.1, length-append earlier p.0))

rising_push : (kept : List History) (history : History) → AreRising kept → Extends history kept → kept_at (length history) kept ≡ None
    → AreRising (kept ++ history ∷ [])
rising_push kept history rising extends none =
    all_pairs_push Begins kept history rising (λ k d less.
    let other : (length (get_or kept k d) == length history) ≡ false = none_passes (has_length (length history)) kept none k d less in
    begins_of (get_or kept k d) history (extends k d less) (λ e. let same = eq-eqb _ _ e in absurd cc))

rising_drop : (kept : List History) → AreRising kept → AreRising (drop 1 kept)
rising_drop [] h = h
rising_drop (history ∷ kept) h = λ i j d l m. h (suc i) (suc j) d (omega arith) (omega arith)

rising_newest : (kept : List History) → AreRising kept → AreRising (newest kept)
rising_newest kept h = by_test (nat_le (length kept) 8) (λ t. rw t h) (λ f. rw f (rising_drop kept h))

-- what is kept once there is room for one more
abbrev roomed : List Pin → List Pin
roomed pins = if nat_lt (length pins) 8 then pins else drop 1 pins

all_roomed : (P : Pin → Type 0) (pins : List Pin) → All P pins → All P (roomed pins)
all_roomed P [] h = h
all_roomed P (pin ∷ pins) h = by_test (nat_lt (length (pin ∷ pins)) 8) (λ t. rw t h) (λ f. rw f (All-tail P pin pins h))

few_roomed : (pins : List Pin) (pin : Pin) → length pins ≤ 8 → length (roomed pins ++ pin ∷ []) ≤ 8
few_roomed [] pin few = omega arith
few_roomed (first ∷ pins) pin few =
    by_test (nat_lt (length (first ∷ pins)) 8)
    (λ t. rw (t, length_push (first ∷ pins) pin) (grind (arith, nat_tests)))
    (λ f. rw (f, length_push pins pin) (omega (arith, few)))

newest_roomed : (pins : List Pin) (pin : Pin) → length pins ≤ 8 → histories_of (roomed pins ++ pin ∷ []) ≡ newest (histories_of pins ++ history_of pin ∷ [])
newest_roomed [] pin few = refl
newest_roomed (first ∷ pins) pin few =
    let long : length (histories_of (first ∷ pins) ++ history_of pin ∷ []) ≡ length (first ∷ pins) + 1 =
    length_push (histories_of (first ∷ pins)) (history_of pin) ∙ ap (λ n. n + 1) (length-map (first ∷ pins) history_of) in
    by_test (nat_lt (length (first ∷ pins)) 8)
    (λ t.
    let within : nat_le (length (first ∷ pins) + 1) 8 ≡ true = grind (arith, nat_tests) in
    rw (t, long, within) (map-append history_of (first ∷ pins) (pin ∷ [])))
    (λ f.
    let over : nat_le (length (first ∷ pins) + 1) 8 ≡ false = grind (arith, nat_tests) in
    rw (f, long, over) (map-append history_of pins (pin ∷ [])))

-- the view of a number stands for the history of that length
found_kept : (feed : Feed) (number : ℕ) (pins : List Pin) → All (IsPin feed) pins → kept_at number (histories_of pins) ≡ option_map history_of (find (has_number number) pins)
found_kept feed number [] h = refl
found_kept feed number (pin ∷ pins) h =
    let own = All-head (IsPin feed) pin pins h in
    let same : has_length number (history_of pin) ≡ has_number number pin = ap (λ n. n == number) (sym own.numbered) in
    by_test (has_number number pin)
    (λ t. rw (same, t) refl)
    (λ f. rw (same, f) (found_kept feed number pins (All-tail (IsPin feed) pin pins h)))

-- a ring, whose views are read as a slice
module _ (feed : Feed) (pins : Vec Pin) (given : List Pin) (ring : IsRing feed pins) (given_is : given ≡ pins.items) where
  kept_is : (number : ℕ) (found : Option Pin) → found ≡ find (has_number number) given → kept_at number (histories_of pins.items) ≡ option_map history_of found
  kept_is number found e =
      found_kept feed number pins.items ring.views ∙ ap (λ ps. option_map history_of (find (has_number number) ps)) (sym given_is) ∙ ap (option_map history_of) (sym e)

  pub view_at : (seen : KeptView) → record { feed = feed; kept = histories_of pins.items } ≡ seen → (number : ℕ) (pin : Pin) (view : Bor View)
      → Some pin ≡ find (has_number number) given → view.now ≡ pin.view → IsViewOf seen.feed (kept_at number seen.kept) (Some view)
  view_at seen view_is number pin view e same =
      let there : kept_at number (histories_of pins.items) ≡ Some (history_of pin) = kept_is number (Some pin) e in
      let own : IsPin feed pin = found_holds (IsPin feed) (has_number number) pins.items pin ring.views (sym (e ∙ ap (find (has_number number)) given_is)) in
      subst (λ (s : KeptView). IsViewOf s.feed (kept_at number s.kept) (Some view)) view_is (rw (there, same) own)

  pub none_at : (seen : KeptView) → record { feed = feed; kept = histories_of pins.items } ≡ seen → (number : ℕ)
      → None ≡ find (has_number number) given → IsViewOf seen.feed (kept_at number seen.kept) None
  none_at seen view_is number e =
      let none : kept_at number (histories_of pins.items) ≡ None = kept_is number None e in
      subst (λ (s : KeptView). IsViewOf s.feed (kept_at number s.kept) None) view_is (rw none tt)

  there : (known : List History) (view : View) (found : Option Pin) → IsTaken feed known (histories_of pins.items) view → found ≡ find (has_number view.number) given
      → is_some found ≡ true → histories_of pins.items ≡ keep_known (histories_of pins.items) known
  there [] view found taken e some = absurd taken
  there (history ∷ known) view None taken e some = absurd cc
  there (history ∷ known) view (Some pin) taken e some =
      let at : kept_at (length history) (histories_of pins.items) ≡ Some (history_of pin) = rw (← taken.0.numbered) (kept_is view.number (Some pin) e) in
      rw at refl

  pub keeps_there : (seen : KeptView) → record { feed = feed; kept = histories_of pins.items } ≡ seen → (known : List History) (view : View) (found : Option Pin)
      → IsTaken seen.feed known seen.kept view → found ≡ find (has_number view.number) given → is_some found ≡ true
      → seen ≡ record { feed = seen.feed; kept = keep_known seen.kept known }
  keeps_there seen view_is known view found taken e some =
      let own = subst (λ (s : KeptView). IsTaken s.feed known s.kept view) (sym view_is) taken in
      subst (λ (s : KeptView). s ≡ record { feed = s.feed; kept = keep_known s.kept known }) view_is
      (ap (λ kept. record { feed = feed; kept = kept }) (there known view found own e some))

  -- a view more
  module _ (pin : Pin) (room : List Pin) (new : Vec Pin) (room_is : room ≡ roomed pins.items) (new_is : new.items ≡ room ++ pin ∷ []) where
    pushed : new.items ≡ roomed pins.items ++ pin ∷ []
    pushed = new_is ∙ ap (λ ps. ps ++ pin ∷ []) room_is

    newest_is : histories_of new.items ≡ newest (histories_of pins.items ++ history_of pin ∷ [])
    newest_is = ap histories_of pushed ∙ newest_roomed pins.items pin ring.few

    ring_more : IsPin feed pin → Extends (history_of pin) (histories_of pins.items) → kept_at (length (history_of pin)) (histories_of pins.items) ≡ None → vec_capacity new ≡ 8 → IsRing feed new
    ring_more own extends none room = record {
      views = subst (All (IsPin feed)) (sym pushed) (All-push (IsPin feed) (roomed pins.items) pin (all_roomed (IsPin feed) pins.items ring.views) own);
      rising = subst AreRising (sym newest_is)
          (rising_newest (histories_of pins.items ++ history_of pin ∷ []) (rising_push (histories_of pins.items) (history_of pin) ring.rising extends none));
      few = subst (λ (ps : List Pin). length ps ≤ 8) (sym pushed) (few_roomed pins.items pin ring.few);
      room = room;
    }

    more : (known : List History) (found : Option Pin) → pin.pass.value.known ≡ known → IsTaken feed known (histories_of pins.items) pin.view
        → found ≡ find (has_number pin.view.number) given → is_some found ≡ false → vec_capacity new ≡ 8
        → IsRing feed new × (histories_of new.items ≡ keep_known (histories_of pins.items) known)
    more [] found known_is taken e none room = absurd taken
    more (history ∷ known) (Some there) known_is taken e none room = absurd cc
    more (history ∷ known) None known_is taken e none room =
        let history_is : history_of pin ≡ history = ap (λ known. unwrap_or (first_known known) []) known_is in
        let not_there : kept_at (length history) (histories_of pins.items) ≡ None = rw (← taken.0.numbered) (kept_is pin.view.number None e) in
        (ring_more (rw history_is taken.0) (rw history_is taken.1) (rw history_is not_there) room, newest_is ∙ rw (history_is, not_there) refl)

    pub keeps_more : (seen : KeptView) → record { feed = feed; kept = histories_of pins.items } ≡ seen → (known : List History) (found : Option Pin) → pin.pass.value.known ≡ known
        → IsTaken seen.feed known seen.kept pin.view → found ≡ find (has_number pin.view.number) given → is_some found ≡ false → vec_capacity new ≡ 8
        → IsRing feed new × ◌≡◌ {A = KeptView} (record { feed = feed; kept = histories_of new.items }) (record { feed = seen.feed; kept = keep_known seen.kept known })
    keeps_more seen view_is known found known_is taken e none room =
        let own = subst (λ (s : KeptView). IsTaken s.feed known s.kept pin.view) (sym view_is) taken in
        let all = more known found known_is own e none room in (
          all.0,
          subst (λ (s : KeptView). ◌≡◌ {A = KeptView} (record { feed = feed; kept = histories_of new.items }) (record { feed = s.feed; kept = keep_known s.kept known })) view_is
              (ap (λ kept. record { feed = feed; kept = kept }) all.1),
        )
