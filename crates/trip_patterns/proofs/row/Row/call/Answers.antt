use Rattle.std.proofs.Common.{◌≡◌, ◌∙◌, sym, ap, get_or, ℕ, ℤ, List, pos, Some, w64}
use Rattle.std.proofs.lemmas.Int.{to_z-of_z}
use Rattle.std.proofs.lemmas.List.{get_or_default}
use Rattle.otp_model.specs.Patterns.{Spot}
use Rattle.trip_patterns.proofs.CallLemmas.{no_spot, row_call}
use Rattle.trip_patterns.proofs.row.Row.call.Goals as goal

pub returns : goal.returns
returns c =
    let row = c.args.self.now in
    let k = c.args.position in
    let pattern = c.args.pattern.now in
    let read = c.index-pattern-position.result in
    let spot : get_or pattern k no_spot ≡ read
    = get_or_default pattern k no_spot read c.requires.position ∙ sym c.index-pattern-position.is in
    let stop = ap (λ (s : Spot). s.stop) spot ∙ sym c.stop.ensures in
    let board = ap (λ (s : Spot). s.board) spot ∙ sym c.may_board.ensures in
    let alight = ap (λ (s : Spot). s.alight) spot ∙ sym c.may_alight.ensures in
    let seq = ap (λ (xs : List ℕ). get_or xs k 0) (sym c.as_slice-seqs.ensures) in
    let arrival = ap (λ (xs : List ℤ). get_or xs k (pos 0)) (sym c.as_slice.ensures) ∙ sym c.time_at.ensures ∙ sym (to_z-of_z w64 c.time_at.result (record { sfits = c.time_at.type_inv })) in
    let departure = ap (λ (xs : List ℤ). get_or xs k (pos 0)) (sym c.as_slice-2.ensures) ∙ sym c.time_at-2.ensures ∙ sym (to_z-of_z w64 c.time_at-2.result (record { sfits = c.time_at-2.type_inv })) in
    row_call pattern row k c.requires.whole c.requires.position
    ∙ (λ i. Some (record { stop = stop i; seq = seq i; arrival = arrival i; departure = departure i; board = board i; alight = alight i }))
