-- What was written, piece by piece.
use Rattle.std.proofs.Common.{ℕ, ◌+◌, sym, subst, ◌∙◌, List, [], ◌++◌, length, take, Option, Some, None, append_assoc, arith, length-append}
use Rattle.std.proofs.lemmas.List.{append-nil}
use Rattle.std.proofs.Math.Seq.{take-append-add}
use Rattle.otp_base.specs.Sink.{AppendsKnown}
use Rattle.link_stream.specs.Transcript.{Writes}
use Rattle.link_stream.specs.declared.stream.StreamEnd.{StreamEnd}
use Rattle.link_stream.specs.declared.stream.StreamEnd.TheVariants as ended

pub appends_nothing : (before : Option (List ℕ)) → AppendsKnown before before []
appends_nothing None = tt
appends_nothing (Some bytes) = sym (append-nil bytes)

appends_both : (before between now : Option (List ℕ)) (a b : List ℕ) → AppendsKnown before between a → AppendsKnown between now b → AppendsKnown before now (a ++ b)
appends_both None None None a b first second = tt
appends_both None None (Some now) a b first second = second
appends_both None (Some between) now a b first second = absurd first
appends_both (Some before) None now a b first second = absurd first
appends_both (Some before) (Some between) None a b first second = second
appends_both (Some before) (Some between) (Some now) a b first second = second ∙ rw first (append_assoc before a b)

-- a piece that was written whole, before the others
pub writes_both : (end : StreamEnd) (before between now : Option (List ℕ)) (a b : List ℕ) → AppendsKnown before between a → Writes end between now b → Writes end before now (a ++ b)
writes_both ended.Ended before between now a b first second = appends_both before between now a b first second
writes_both ended.CutShort before between now a b first second = appends_both before between now a b first second
writes_both ended.ReadFault before between now a b first second = appends_both before between now a b first second
writes_both ended.Spent before between now a b first second = appends_both before between now a b first second
writes_both ended.Memory before between now a b first second = appends_both before between now a b first second
writes_both ended.WriteFault before between now a b first second = (
  length a + second.0,
  (let within = second.1 in omega (arith, length-append a b)),
  subst (AppendsKnown before now) (sym (take-append-add a b second.0)) (appends_both before between now a (take second.0 b) first second.2),
)
