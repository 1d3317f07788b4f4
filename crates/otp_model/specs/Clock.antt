-- Times of day as texts, H:MM:SS with one to three digits of hours (GTFS Schedule reference, "Time"), in seconds. That
-- there are three digits of hours at most is this project's own.
use Rattle.std.specs.Prelude.{ℕ, ◌+◌, ◌*◌, List, [], ◌∷◌, Option, Some, None, nat_lt, ◌==◌, ◌&&◌, if◌then◌else◌}
use Rattle.otp_model.specs.Day.{number_of_two}

-- a number below 60
abbrev pub below_sixty : Option ℕ → Option ℕ
below_sixty None = None
below_sixty (Some n) = if nat_lt n 60 then Some n else None

abbrev pub seconds_of : Option ℕ → Option ℕ → Option ℕ → Option ℕ
seconds_of (Some hours) (Some minutes) (Some seconds) = Some (3600 * hours + (60 * minutes + seconds))
seconds_of _ _ _ = None

-- hours, and a colon, two digits below 60, a colon and two digits below 60
abbrev pub behind_hours : Option ℕ → ℕ → ℕ → ℕ → ℕ → ℕ → ℕ → Option ℕ
behind_hours hours p a b q c d =
    if (p == 58) && (q == 58) then seconds_of hours (below_sixty (number_of_two a b)) (below_sixty (number_of_two c d)) else None

abbrev pub three_digits : Option ℕ → Option ℕ → Option ℕ
three_digits (Some hundreds) (Some rest) = Some (100 * hundreds + rest)
three_digits _ _ = None

-- the seconds of a time of day; one digit is a number of two with a zero, `b'0'`, before it
unfoldable pub clock_of : List ℕ → Option ℕ
clock_of (h ∷ p ∷ a ∷ b ∷ q ∷ c ∷ d ∷ []) = behind_hours (number_of_two 48 h) p a b q c d
clock_of (g ∷ h ∷ p ∷ a ∷ b ∷ q ∷ c ∷ d ∷ []) = behind_hours (number_of_two g h) p a b q c d
clock_of (f ∷ g ∷ h ∷ p ∷ a ∷ b ∷ q ∷ c ∷ d ∷ []) = behind_hours (three_digits (number_of_two 48 f) (number_of_two g h)) p a b q c d
clock_of text = None
