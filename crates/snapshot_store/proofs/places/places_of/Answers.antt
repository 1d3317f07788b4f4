use Rattle.std.proofs.Common.{◌≡◌, ◌<◌, List, [], ◌++◌, get_or, length, map, sym, ap, ◌∙◌, arith, ℕ}
use Rattle.std.specs.Arc.{arc_value}
use Rattle.std.proofs.lemmas.List.{length-map}
use Rattle.otp_model.specs.Patterns.{Spot}
use Rattle.trip_patterns.specs.declared.timetable.BlockStop.{BlockStop}
use Rattle.snapshot_store.specs.Places.{block_pattern, places_before, places_in}
use Rattle.snapshot_store.proofs.PlaceLemmas.{places_before_more}
use Rattle.snapshot_store.proofs.RowLemmas.{block_read}
use Rattle.snapshot_store.proofs.places.places_of.Goals as goal

pub loop-block-preserved : goal.loop-block-preserved
loop-block-preserved c =
    let blocks = map arc_value c.args.blocks.now in
    let n = c.loop-block.block in
    let less : n < length c.args.blocks.now = omega arith in
    let pattern : c.pattern_of.result.now ≡ block_pattern (get_or blocks n [])
    = c.pattern_of.ensures ∙ ap block_pattern (block_read arc_value c.args.blocks.now n c.index-blocks-block.result less c.index-blocks-block.is) in λ stop.
    c.in_ok-put_block.ensures stop ∙ ap (λ (xs : List BlockStop). xs ++ places_in stop n c.pattern_of.result.now (length c.pattern_of.result.now)) (c.loop-block.invariant stop)
    ∙ ap (λ (p : List Spot). places_before blocks stop n ++ places_in stop n p (length p)) pattern ∙ sym (places_before_more blocks stop n)

pub returns : goal.returns
returns c =
    let blocks = map arc_value c.args.blocks.now in
    let all : c.loop-block.block ≡ length blocks = omega (arith, length-map c.args.blocks.now arc_value, c.loop-block.auto.block-end, c.loop-block-test.false) in
    record { each = λ stop. c.loop-block.invariant stop ∙ ap (λ (n : ℕ). places_before blocks stop n) all }
