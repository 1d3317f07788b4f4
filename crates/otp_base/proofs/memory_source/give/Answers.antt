use Rattle.std.proofs.Common.{◌≡◌, ℕ, ◌+◌, ◌-◌, ◌≤◌, List, ◌++◌, length, take, drop, sym, ap, ◌∙◌, arith}
use Rattle.std.proofs.lemmas.List.{length-drop, length-take-le, take-append-drop, take_at, drop-drop}
use Rattle.otp_base.proofs.memory_source.give.Goals as goal

-- a piece that was copied to the front of a slice is the next of the bytes
given_piece : (at count n : ℕ) (bytes piece rest : List ℕ) → at + count ≤ length bytes → n ≡ count → piece ≡ take n (drop at bytes) → drop at bytes ≡ take count (piece ++ rest) ++ drop (at + count) bytes
given_piece at count n bytes piece rest within same copied =
    let short : count ≤ length (drop at bytes) = rw length-drop (omega arith) in
    let is : piece ≡ take count (drop at bytes) = rw same at copied in
    let long : length piece ≡ count = ap length is ∙ length-take-le count (drop at bytes) short in
    rw (take_at piece rest count long, is, ← drop-drop count at bytes) (sym (take-append-drop count (drop at bytes)))

pub returns-clause-bytes : goal.returns-clause-bytes
returns-clause-bytes c =
    given_piece c.args.at.now c.min-count.result (c.args.at.now + c.min-count.result - c.args.at.now) c.args.bytes.now c.copy_from_slice.new.self (drop c.min-count.result c.args.into.now) (omega arith) (omega arith) c.copy_from_slice.ensures.after
