-- Where the head of a request ends.
--
-- That a lone LF ends a line too, and that empty lines may stand before a request line, is RFC 9112, section 2.2.
-- That the head ends with the first empty line after the request line, whatever the lines between are, and the limits,
-- are this project's own.
use Rattle.std.specs.Prelude.{◌≡◌, ℕ, ◌+◌, ◌<◌, ◌≤◌, ◌⊎◌, Bool, true, false, ◌||◌, List, [], ◌∷◌, ◌++◌, length, take, get_or, if◌then◌else◌, ◌==◌, bytes_eq}
use Rattle.std.specs.List.{concat}
use Rattle.httparse.specs.Ascii.{line_feed, crlf_bytes}

-- the whole lines of the bytes, each with its line feed, where these bytes of the first line stand before them
unfoldable pub lines_after : List ℕ → List ℕ → List (List ℕ)
lines_after begun [] = []
lines_after begun (b ∷ bytes) = if b == line_feed then (begun ++ b ∷ []) ∷ lines_after [] bytes else lines_after (begun ++ b ∷ []) bytes

-- the whole lines of the bytes
abbrev pub whole_lines : List ℕ → List (List ℕ)
whole_lines bytes = lines_after [] bytes

-- the bytes up to and with the n-th line feed
abbrev pub front : ℕ → List ℕ → List ℕ
front n bytes = concat (take n (whole_lines bytes))

-- a line with nothing in it but its end, CR LF or LF
unfoldable pub is_empty_line : List ℕ → Bool
is_empty_line line = bytes_eq line crlf_bytes || bytes_eq line (line_feed ∷ [])

-- whether the line of this number, counted from 0, is empty
abbrev pub is_empty_at : List ℕ → ℕ → Bool
is_empty_at bytes i = is_empty_line (get_or (whole_lines bytes) i [])

-- The line `request` is the request line, the first that is not empty, and the line `mark` is the first empty one after
-- it. A mark is looked for up to 67 line feeds and 16,384 bytes.
pub record IsMark (bytes : List ℕ) (request mark : ℕ) : Type 0 where
  pub whole : mark < length (whole_lines bytes)
  pub after : request < mark
  pub before : (i : ℕ) → i < request → is_empty_at bytes i ≡ true
  pub first : is_empty_at bytes request ≡ false
  pub between : (i : ℕ) → request < i → i < mark → is_empty_at bytes i ≡ false
  pub last : is_empty_at bytes mark ≡ true
  pub feeds : mark < 67
  pub size : length (front (mark + 1) bytes) ≤ 16384

abbrev pub HasNoMark : List ℕ → Type 0
HasNoMark bytes = (request mark : ℕ) → IsMark bytes request mark → ⊥

-- as many line feeds or bytes as a mark is looked for in
abbrev pub IsSpent : List ℕ → Type 0
IsSpent bytes = (67 ≤ length (whole_lines bytes)) ⊎ (16384 ≤ length bytes)

-- the text is the front of the bytes up to the mark, with so many lines between the request line and the mark's line
pub record HasHead (bytes text : List ℕ) (lines : ℕ) : Type 0 where
  pub request : ℕ
  pub mark : ℕ
  pub marked : IsMark bytes request mark
  pub text_is : text ≡ front (mark + 1) bytes
  pub lines_is : request + 1 + lines ≡ mark
