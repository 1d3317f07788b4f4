-- That the bytes decide how a connection ends before a request.
use Rattle.std.specs.Prelude.{◌≡◌, ◌⊎◌, List, ℕ, Option, Some}
use Rattle.http_read.specs.declared.request.HeadFault.{HeadFault}
use Rattle.link_stream.specs.Transcript.{EndsBefore}
use Rattle.link_stream.specs.declared.stream.StreamEnd.{StreamEnd}
use Rattle.link_stream.specs.declared.stream.StreamEnd.TheVariants as ended

-- an end that no fault and no want of memory brings
abbrev pub IsOfBytes : StreamEnd → Type 0
IsOfBytes end = (end ≡ ended.Ended) ⊎ (end ≡ ended.CutShort)

-- of the same bytes no two such ends are there, nor two replies that are written last
abbrev pub HasOneEnd : Type 0
HasOneEnd =
    (refusal : HeadFault → List ℕ) (no_memory bytes : List ℕ) (a b : StreamEnd) (v w : List ℕ) (u t : Option (List ℕ))
    → IsOfBytes a → IsOfBytes b
    → EndsBefore refusal no_memory (Some bytes) v a u → EndsBefore refusal no_memory (Some bytes) w b t
    → (a ≡ b) × (v ≡ w)
