-- What a call makes of the bytes that are held and of those that the source has left.
use Rattle.std.specs.Prelude.{◌≡◌, ℕ, ◌<◌, ◌≤◌, ◌⊎◌, Option, Some, None, List, [], ◌++◌, length, take}
use Rattle.http_read.specs.Item.{Item, kept_body}
use Rattle.http_read.specs.Lines.{HasNoMark, IsSpent, HasHead}
use Rattle.http_read.specs.declared.buffered.Filled.{Filled}
use Rattle.http_read.specs.declared.buffered.Filled.TheVariants as filled
use Rattle.http_read.specs.declared.ahead.Ahead.{Ahead}
use Rattle.http_read.specs.declared.ahead.Ahead.TheVariants as ahead
use Rattle.http_read.specs.declared.body.Rest.{Rest}
use Rattle.http_read.specs.declared.body.Rest.TheVariants as rest
use Rattle.http_read.specs.declared.head.Asked.{Asked}
use Rattle.http_read.specs.declared.request.HttpRequest.{HttpRequest}
use Rattle.http_read.specs.declared.request.Next.{Next}
use Rattle.http_read.specs.declared.request.Next.TheVariants as next

-- what is held and what is left are the same bytes as before, where the source tells what it has left
abbrev pub Stays : Option (List ℕ) → List ℕ → Option (List ℕ) → List ℕ → Type 0
Stays None before None now = Unit {0}
Stays None before (Some after) now = ⊥
Stays (Some left) before None now = ⊥
Stays (Some left) before (Some after) now = before ++ left ≡ now ++ after

-- whether the source tells what it has left stays so
abbrev pub KeepsTelling : Option (List ℕ) → Option (List ℕ) → Type 0
KeepsTelling None None = Unit {0}
KeepsTelling None (Some after) = ⊥
KeepsTelling (Some left) None = ⊥
KeepsTelling (Some left) (Some after) = Unit {0}

-- nothing is left, where the source tells it
abbrev pub NoneLeft : Option (List ℕ) → Type 0
NoneLeft None = Unit {0}
NoneLeft (Some left) = left ≡ []

-- one read into the buffer
abbrev pub Fills : Option (List ℕ) → List ℕ → Option (List ℕ) → List ℕ → Filled → Type 0
Fills left before after now filled.More = Stays left before after now × (length before < length now) × (take (length before) now ≡ before)
Fills left before after now filled.End = Stays left before after now × NoneLeft after × (now ≡ before)
Fills left before after now filled.Failed = Stays left before after now × (now ≡ before)
Fills left before after now filled.Memory = KeepsTelling left after

-- what is held once the front was looked at for a mark
abbrev pub IsAhead : List ℕ → Ahead → Type 0
IsAhead held (ahead.Head size lines) = (size ≤ length held) × HasHead held (take size held) lines
IsAhead held ahead.Spent = ((more : List ℕ) → HasNoMark (held ++ more)) × IsSpent held
IsAhead held ahead.End = held ≡ []
IsAhead held ahead.CutShort = (0 < length held) × HasNoMark held × (IsSpent held → ⊥)
IsAhead held ahead.ReadFault = HasNoMark held × (IsSpent held → ⊥)
IsAhead held ahead.Memory = Unit {0}

abbrev pub LooksAhead : Option (List ℕ) → List ℕ → Option (List ℕ) → List ℕ → Ahead → Type 0
LooksAhead left before after now (ahead.Head size lines) = Stays left before after now
LooksAhead left before after now ahead.Spent = Stays left before after now
LooksAhead left before after now ahead.End = Stays left before after now × NoneLeft after
LooksAhead left before after now ahead.CutShort = Stays left before after now × NoneLeft after
LooksAhead left before after now ahead.ReadFault = Stays left before after now
LooksAhead left before after now ahead.Memory = KeepsTelling left after

-- what reading so many bytes gives
abbrev pub ReadsRest : ℕ → Option (List ℕ) → List ℕ → Option (List ℕ) → List ℕ → Rest → Type 0
ReadsRest size left before after now rest.Whole = Stays left before after now × (length now ≡ size)
ReadsRest size left before after now rest.CutShort = Stays left before after now × NoneLeft after × (length now < size)
ReadsRest size left before after now rest.ReadFault = Stays left before after now × (length now < size) × (take (length before) now ≡ before)
ReadsRest size left before after now rest.Memory = KeepsTelling left after

-- the bytes end before a request or inside one, so neither a whole request nor a refused head stands at their front
abbrev pub IsUnfinished : List ℕ → Type 0
IsUnfinished bytes = (bytes ≡ []) ⊎ Item bytes next.CutShort []

-- The answer is the item of the bytes that were held and left, and after a request the bytes after it are held and left.
-- Where a read failed, the bytes that were held and read are unfinished.
abbrev pub Answers : Option (List ℕ) → List ℕ → Option (List ℕ) → List ℕ → Next → Type 0
Answers None before None now answer = Unit {0}
Answers None before (Some after) now answer = ⊥
Answers (Some left) before None now answer = ⊥
Answers (Some left) before (Some after) now (next.Request request) = Item (before ++ left) (next.Request request) (now ++ after)
Answers (Some left) before (Some after) now next.End = Item (before ++ left) next.End []
Answers (Some left) before (Some after) now (next.Refused f) = Item (before ++ left) (next.Refused f) []
Answers (Some left) before (Some after) now next.CutShort = Item (before ++ left) next.CutShort []
Answers (Some left) before (Some after) now next.ReadFault = (read : List ℕ) × (before ++ left ≡ read ++ after) × IsUnfinished read
Answers (Some left) before (Some after) now next.Memory = Unit {0}

-- what the end of the input says of what is held
abbrev pub EndsSo : List ℕ → Ahead → Type 0
EndsSo held (ahead.Head size lines) = ⊥
EndsSo held ahead.Spent = ⊥
EndsSo held ahead.End = held ≡ []
EndsSo held ahead.CutShort = 0 < length held
EndsSo held ahead.ReadFault = ⊥
EndsSo held ahead.Memory = ⊥

-- the request that a head with this body makes
pub record AsksFor (asked : Asked) (content : List ℕ) (request : HttpRequest) : Type 0 where
  pub method : request.method ≡ asked.method
  pub target : request.target ≡ asked.target
  pub close : request.close ≡ asked.close
  pub body : request.body ≡ kept_body asked.method content

-- fewer bytes than these are held and left, where the source tells what it has left
abbrev pub IsShorter : Option (List ℕ) → List ℕ → Option (List ℕ) → ℕ → Type 0
IsShorter None before None size = Unit {0}
IsShorter None before (Some after) size = ⊥
IsShorter (Some left) before None size = ⊥
IsShorter (Some left) before (Some after) size = length (before ++ left) < size

-- fewer bytes than these were held and read, where the source tells what it has left
abbrev pub ReadsFewer : Option (List ℕ) → List ℕ → Option (List ℕ) → ℕ → Type 0
ReadsFewer None before None size = Unit {0}
ReadsFewer None before (Some after) size = ⊥
ReadsFewer (Some left) before None size = ⊥
ReadsFewer (Some left) before (Some after) size = (read : List ℕ) × (left ≡ read ++ after) × (length (before ++ read) < size)

-- what reading a body that follows its head gives
abbrev pub BodyFollows : Option (List ℕ) → List ℕ → Option (List ℕ) → List ℕ → Asked → Next → Type 0
BodyFollows left before after now asked (next.Request request) = (body : List ℕ) × Stays left before after (body ++ now) × (length body ≡ asked.length) × AsksFor asked body request
BodyFollows left before after now asked next.End = ⊥
BodyFollows left before after now asked (next.Refused f) = ⊥
BodyFollows left before after now asked next.CutShort = IsShorter left before after asked.length
BodyFollows left before after now asked next.ReadFault = ReadsFewer left before after asked.length
BodyFollows left before after now asked next.Memory = KeepsTelling left after
