-- Noting names one after the other gives them in the order of first sight.
use Rattle.std.proofs.Common.{◌≡◌, ℕ, ◌+◌, ◌≤◌, ◌<◌, List, [], ◌∷◌, ◌++◌, length, Bool, true, false, cond, not, ◌||◌, refl, sym, ap, ◌∙◌, arith, append_assoc}
use Rattle.std.specs.List.{filter}
use Rattle.std.specs.Str.{bytes_eq}
use Rattle.std.proofs.lemmas.List.{append-nil}
use Rattle.name_index.proofs.TestFacts.{same_bytes, bytes_eq-refl, bytes_eq-other_way, or-left, or-right, filter-swap}
use Rattle.otp_model.specs.Sights.{first_sights, has_name, is_other, noted, place_of}

-- what noting each of the names in turn makes of those that were seen
unfoldable pub noted_all : List (List ℕ) → List (List ℕ) → List (List ℕ)
noted_all seen [] = seen
noted_all seen (name ∷ names) = noted_all (noted seen name) names

-- a name is unseen
abbrev pub is_new : List (List ℕ) → List ℕ → Bool
is_new seen name = not (has_name seen name)

pub has-append : (seen : List (List ℕ)) (name other : List ℕ) → has_name (seen ++ name ∷ []) other ≡ (has_name seen other || bytes_eq other name)
has-append [] name other = by (bytes_eq other name)
  where
    by : (b : Bool) → (b || false) ≡ b
    by true = refl
    by false = refl
has-append (first ∷ seen) name other = by (bytes_eq other first) (has-append seen name other)
  where
    by : (b : Bool) → has_name (seen ++ name ∷ []) other ≡ (has_name seen other || bytes_eq other name)
        → (b || has_name (seen ++ name ∷ []) other) ≡ ((b || has_name seen other) || bytes_eq other name)
    by true more = refl
    by false more = more

-- leaving the seen names out leaves one more seen name out
new-of_others : (seen : List (List ℕ)) (name : List ℕ) → has_name seen name ≡ true → (names : List (List ℕ)) → filter (is_new seen) (filter (is_other name) names) ≡ filter (is_new seen) names
new-of_others seen name h [] = refl
new-of_others seen name h (other ∷ names) = by (bytes_eq name other) refl (new-of_others seen name h names)
  where
    by : (b : Bool) → bytes_eq name other ≡ b → filter (is_new seen) (filter (is_other name) names) ≡ filter (is_new seen) names
        → filter (is_new seen) (cond (not (bytes_eq name other)) (other ∷ filter (is_other name) names) (filter (is_other name) names)) ≡ filter (is_new seen) (other ∷ names)
    by true e more = let seen_too : has_name seen other ≡ true = rw (← same_bytes name other e) h in rw (e, seen_too) more
    by false e more = rw e (ap (λ (kept : List (List ℕ)). cond (is_new seen other) (other ∷ kept) kept) more)

new-of_more : (seen : List (List ℕ)) (name : List ℕ) (names : List (List ℕ)) → filter (is_new (seen ++ name ∷ [])) names ≡ filter (is_new seen) (filter (is_other name) names)
new-of_more seen name [] = refl
new-of_more seen name (other ∷ names) = by (bytes_eq name other) refl (has_name seen other) refl (new-of_more seen name names)
  where
    by : (b : Bool) → bytes_eq name other ≡ b → (s : Bool) → has_name seen other ≡ s
        → filter (is_new (seen ++ name ∷ [])) names ≡ filter (is_new seen) (filter (is_other name) names)
        → filter (is_new (seen ++ name ∷ [])) (other ∷ names) ≡ filter (is_new seen) (cond (not (bytes_eq name other)) (other ∷ filter (is_other name) names) (filter (is_other name) names))
    by true e s f more =
        let same : other ≡ name = sym (same_bytes name other e) in
        let self : bytes_eq other name ≡ true = rw same (bytes_eq-refl name) in
        let has : has_name (seen ++ name ∷ []) other ≡ true = has-append seen name other ∙ rw (self, f) (or-true s) in
        rw (e, has) more
      where
        or-true : (s : Bool) → (s || true) ≡ true
        or-true true = refl
        or-true false = refl
    by false e true f more =
        let has : has_name (seen ++ name ∷ []) other ≡ true = has-append seen name other ∙ rw f refl in
        rw (e, has) (rw f more)
    by false e false f more =
        let has : has_name (seen ++ name ∷ []) other ≡ false = has-append seen name other ∙ rw (f, bytes_eq-other_way name other e) refl in
        rw (e, has) (rw f (ap (λ (kept : List (List ℕ)). other ∷ kept) more))

noted_all-new : (seen names : List (List ℕ)) → noted_all seen names ≡ seen ++ filter (is_new seen) (first_sights names)
unfolding noted_all first_sights
noted_all-new seen [] = sym (append-nil seen)
noted_all-new seen (name ∷ names) = by (has_name seen name) refl (noted_all-new seen names) (noted_all-new (seen ++ name ∷ []) names)
  where
    by : (b : Bool) → has_name seen name ≡ b
        → noted_all seen names ≡ seen ++ filter (is_new seen) (first_sights names)
        → noted_all (seen ++ name ∷ []) names ≡ (seen ++ name ∷ []) ++ filter (is_new (seen ++ name ∷ [])) (first_sights names)
        → noted_all (cond (has_name seen name) seen (seen ++ name ∷ [])) names ≡ seen ++ filter (is_new seen) (name ∷ filter (is_other name) (first_sights names))
    by true e old new = rw e (old ∙ ap (λ (kept : List (List ℕ)). seen ++ kept) (sym (new-of_others seen name e (first_sights names))))
    by false e old new =
        rw e (new ∙ (append_assoc seen (name ∷ []) (filter (is_new (seen ++ name ∷ [])) (first_sights names))
        ∙ ap (λ (kept : List (List ℕ)). seen ++ (name ∷ kept)) (new-of_more seen name (first_sights names))))

all_new : (names : List (List ℕ)) → filter (is_new []) names ≡ names
all_new [] = refl
all_new (name ∷ names) = ap (λ (kept : List (List ℕ)). name ∷ kept) (all_new names)

pub starts_noting : (names : List (List ℕ)) → noted_all [] names ≡ first_sights names
starts_noting names = noted_all-new [] names ∙ all_new (first_sights names)

has-others : (name other : List ℕ) (names : List (List ℕ)) → bytes_eq name other ≡ false → has_name (filter (is_other other) names) name ≡ has_name names name
has-others name other [] h = refl
has-others name other (first ∷ names) h = by (bytes_eq other first) refl (has-others name other names h)
  where
    by : (b : Bool) → bytes_eq other first ≡ b → has_name (filter (is_other other) names) name ≡ has_name names name
        → has_name (cond (not (bytes_eq other first)) (first ∷ filter (is_other other) names) (filter (is_other other) names)) name ≡ (bytes_eq name first || has_name names name)
    by true e more = let differs : bytes_eq name first ≡ false = rw (← same_bytes other first e) h in rw (e, differs) more
    by false e more = rw e (ap (λ (b : Bool). bytes_eq name first || b) more)

-- the names in order of first sight are the names
pub has-first_sights : (names : List (List ℕ)) (name : List ℕ) → has_name (first_sights names) name ≡ has_name names name
unfolding first_sights
has-first_sights [] name = refl
has-first_sights (first ∷ names) name = by (bytes_eq name first) refl (has-first_sights names name)
  where
    by : (b : Bool) → bytes_eq name first ≡ b → has_name (first_sights names) name ≡ has_name names name
        → (bytes_eq name first || has_name (filter (is_other first) (first_sights names)) name) ≡ (bytes_eq name first || has_name names name)
    by true e more = rw e refl
    by false e more = rw e (has-others name first (first_sights names) e ∙ more)

-- a name that isn't there needn't be left out
pub first_sights-without : (name : List ℕ) (names : List (List ℕ)) → has_name names name ≡ false → filter (is_other name) (first_sights names) ≡ first_sights names
unfolding first_sights
first_sights-without name [] h = refl
first_sights-without name (first ∷ names) h =
    let differs = or-left (bytes_eq name first) (has_name names name) h in
    let more = first_sights-without name names (or-right (bytes_eq name first) (has_name names name) h) in
    rw differs (ap (λ (kept : List (List ℕ)). first ∷ kept) (filter-swap (is_other name) (is_other first) (first_sights names) ∙ ap (filter (is_other first)) more))

filter-shorter : (p : List ℕ → Bool) (names : List (List ℕ)) → length (filter p names) ≤ length names
filter-shorter p [] = omega arith
filter-shorter p (name ∷ names) = by (p name) (filter-shorter p names)
  where
    by : (b : Bool) → length (filter p names) ≤ length names → length (cond b (name ∷ filter p names) (filter p names)) ≤ length (name ∷ names)
    by true more = omega (arith, more)
    by false more = omega (arith, more)

pub first_sights-shorter : (names : List (List ℕ)) → length (first_sights names) ≤ length names
unfolding first_sights
first_sights-shorter [] = omega arith
first_sights-shorter (name ∷ names) = omega (arith, first_sights-shorter names, filter-shorter (is_other name) (first_sights names))

-- a name that is there has a place
pub place-below : (names : List (List ℕ)) (name : List ℕ) → has_name names name ≡ true → place_of names name < length names
unfolding place_of
place-below [] name h = cc h
place-below (other ∷ names) name h = by (bytes_eq name other) (place-below names name) h
  where
    by : (b : Bool) → (has_name names name ≡ true → place_of names name < length names) → (b || has_name names name) ≡ true
        → cond b 0 (place_of names name + 1) < length (other ∷ names)
    by true more t = omega arith
    by false more t = omega (arith, more t)
