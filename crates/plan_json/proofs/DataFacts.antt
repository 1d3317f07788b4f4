-- Replies have no floats.
use Rattle.std.proofs.Common.{◌≡◌, ℕ, suc, ◌+◌, ◌-◌, ◌<◌, ◌≤◌, arith, ℤ, pos, negsuc, List, [], ◌∷◌, ◌++◌, length, get_or, take, map, false, Option, None, Some, IfSome, codes, refl, subst}
use Rattle.std.specs.List.{All}
use Rattle.std.proofs.lemmas.List.{map-append, take_more}
use Rattle.std.proofs.lemmas.List.Elements.{All-get_or}
use Rattle.otp_model.specs.declared.journey.Found.{Found}
use Rattle.otp_model.specs.declared.journey.Leg.{Leg}
use Rattle.otp_model.specs.declared.journey.Leg.TheVariants.{Walk, Ride}
use Rattle.otp_model.specs.declared.timetable.Feed.{Feed}
use Rattle.otp_model.specs.declared.journey.Cursor.{Cursor}
use Rattle.otp_model.specs.Laws.{cursor_behind}
use Rattle.paging.specs.Text.{FitsText}
use Rattle.serde_json.specs.Data.{Data, member, no_members, string}
use Rattle.serde_json.specs.Find.{is_float, of_integer}
use Rattle.serde_json.specs.View.{items_of}
use Rattle.serde_json.specs.Written.{has_float, items_have_float, members_have_float}
use Rattle.plan_json.specs.Journeys.{journey_data, leg_data, trip_text, with_start}
use Rattle.plan_json.specs.Body.{body_data}
use Rattle.plan_json.specs.Plan.{IsFoundOf, cursor_data}
use Rattle.plan_json.specs.Replies.{number_data, number_or_null}
use Rattle.plan_json.specs.declared.body.Body.{Body}
use Rattle.plan_json.specs.declared.body.Body.TheVariants.{Plan, Status, Updated, Committed, Refused, Parameter, Offset, Kept}

whole : (z : ℤ) → is_float (of_integer z) ≡ false
whole (pos n) = refl
whole (negsuc n) = refl

none-among : {X : Type 0} (f : X → Data) → ((x : X) → has_float (f x) ≡ false) → (xs : List X) → items_have_float (items_of (map f xs)) ≡ false
none-among f none [] = refl
none-among f none (x ∷ xs) = rw (none x) (none-among f none xs)

none-leg : (feed : Feed) (leg : Leg) → has_float (leg_data feed leg) ≡ false
none-leg feed (Walk seconds) = refl
none-leg feed (Ride name board alight) = rw (whole alight.arrival, whole board.departure) (none-start name.start)
  where
    none-start : (start : Option ℕ) → members_have_float (with_start start (member (codes "trip") (string (trip_text feed name.trip)) no_members)) ≡ false
    none-start None = refl
    none-start (Some seconds) = refl

none-journey : (feed : Feed) (found : Found) → has_float (journey_data feed found) ≡ false
none-journey feed found =
    rw (whole found.value.arrival, whole found.value.departure, none-among (leg_data feed) (none-leg feed) found.journey.legs) refl

none-number : (n : Option ℕ) → has_float (number_or_null n) ≡ false
none-number None = refl
none-number (Some n) = refl

none-cursor : (cursor : Option Cursor) → has_float (cursor_data cursor) ≡ false
none-cursor None = refl
none-cursor (Some cursor) = refl

pub none-body : (feed : Feed) (body : Body) → has_float (body_data feed body) ≡ false
none-body feed (Status number) = refl
none-body feed (Updated accepted commit ignored) = rw (none-number commit, none-among number_data (λ n. refl) ignored) refl
none-body feed (Committed number fresh) = refl
none-body feed (Refused name) = refl
none-body feed (Parameter name parameter) = refl
none-body feed (Offset name at) = rw (none-number at) refl
none-body feed (Kept name have) = refl
none-body feed (Plan commit cursor at_least page) =
    rw (none-number page.direct, none-among (journey_data feed) (none-journey feed) page.found, none-cursor (cursor_behind commit page.found)) refl

-- one value more of a list of values
pub one-more : {X V D : Type 0} (view : V → D) (f : X → D) (values more : List V) (value : V) (xs : List X) (i : ℕ) (d : X) → i < length xs
    → map view values ≡ map f (take i xs) → more ≡ values ++ value ∷ [] → view value ≡ f (get_or xs i d) → map view more ≡ map f (take (i + 1) xs)
one-more view f values more value xs i d below so_far is last =
    let item = take_more xs i d below in
    rw (is, item, map-append view values (value ∷ []), map-append f (take i xs) (get_or xs i d ∷ []), so_far, last) refl

-- the cursor behind a page is at its last journey
pub behind-last : (commit : ℕ) (found : List Found) (d : Found) → 1 ≤ length found → Some (record { commit = commit; value = (get_or found (length found - 1) d).value }) ≡ cursor_behind commit found
behind-last commit [] d h = absurd (omega (arith, h))
behind-last commit (x ∷ []) d h = refl
behind-last commit (x ∷ y ∷ rest) d h =
    let back : length (x ∷ y ∷ rest) - 1 ≡ suc (length (y ∷ rest) - 1) = omega arith in
    rw back (behind-last commit (y ∷ rest) d (omega arith))

-- and fits its text where each journey's does
pub behind-fits : (feed : Feed) (commit : ℕ) (found : List Found) → All (IsFoundOf feed commit) found → IfSome (cursor_behind commit found) FitsText
behind-fits feed commit [] all = tt
behind-fits feed commit (x ∷ xs) all =
    let last = All-get_or (IsFoundOf feed commit) (x ∷ xs) (length (x ∷ xs) - 1) x (omega arith) all in
    subst (λ cursor. IfSome cursor FitsText) (behind-last commit (x ∷ xs) x (omega arith)) last.fits
