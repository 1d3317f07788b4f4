-- What a call answered, beside what its definition gives. An answer may be want of memory, of which no
-- definition speaks: `told` gives the fault that an answer's error tells, or none where it tells nothing.
use Rattle.std.specs.Prelude.{◌≡◌, IfSome, Option, Result, Ok, Err}

-- the fault that was told, if one was, is what the definition gives
abbrev pub GivesFault : {Y F : Type 0} → Option F → Result Y F → Type 0
GivesFault told given = IfSome told (λ fault. given ≡ Err fault)

-- what was answered, seen by `view`, is what the definition gives, unless it tells nothing
abbrev pub Gives : {X Y E F : Type 0} → (X → Y) → (E → Option F) → Result X E → Result Y F → Type 0
Gives view told (Ok x) given = given ≡ Ok (view x)
Gives view told (Err e) given = GivesFault (told e) given

-- a fact of the fault that an error tells; want of memory is free
abbrev pub OrMemory : {E F : Type 0} → (E → Option F) → (F → Type 0) → E → Type 0
OrMemory told P e = IfSome (told e) P
