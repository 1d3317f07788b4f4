use Rattle.std.proofs.Common.{◌≡◌, ℤ, List, true, false, subst, arith, inl, inr, sym, refl}
use Rattle.trip_patterns.proofs.RowLemmas.{before_all, before_here, before_more, not_before}
use Rattle.trip_patterns.specs.Rows.{IsRowBefore}
use Rattle.trip_patterns.specs.declared.row.Row.{Row}
use Rattle.trip_patterns.proofs.row.Row.is_before.Goals as goal

pub loop-position-preserved : goal.loop-position-preserved
loop-position-preserved c =
    let arrivals = c.as_slice-arrivals.result.now in
    let departures = c.as_slice-departures.result.now in
    before_more arrivals departures c.args.calls.now c.loop-position.position c.loop-position.invariant
    (before_here arrivals departures c.args.calls.now c.loop-position.position c.is_earlier.result c.is_earlier-in-loop-position.result
    c.is_earlier.ensures c.if-is_earlier.false c.is_earlier-in-loop-position.ensures c.if-is_earlier-2.false)

pub returns-then-is_earlier : goal.returns-then-is_earlier
returns-then-is_earlier c =
    let row : Row = record c.args.self.now { arrivals = c.as_slice-arrivals.result.now } in
    let h : IsRowBefore row c.args.calls.now → ⊥ = not_before row c.args.calls.now c.loop-position.position (omega arith) (inl (c.is_earlier.ensures.0 c.if-is_earlier.true)) in (
      (λ never. absurd (let e : false ≡ true = never in cc)),
      (λ before. absurd (h (subst (λ (xs : List ℤ). IsRowBefore (record c.args.self.now { arrivals = xs }) c.args.calls.now) (sym c.as_slice-arrivals.ensures) before))),
    )

pub returns-then-is_earlier-2 : goal.returns-then-is_earlier-2
returns-then-is_earlier-2 c =
    let row : Row = record c.args.self.now { departures = c.as_slice-departures.result.now } in
    let h : IsRowBefore row c.args.calls.now → ⊥ = not_before row c.args.calls.now c.loop-position.position (omega arith) (inr (c.is_earlier-in-loop-position.ensures.0 c.if-is_earlier-2.true)) in (
      (λ never. absurd (let e : false ≡ true = never in cc)),
      (λ before. absurd (h (subst (λ (xs : List ℤ). IsRowBefore (record c.args.self.now { departures = xs }) c.args.calls.now) (sym c.as_slice-departures.ensures) before))),
    )

pub returns : goal.returns
returns c =
    let row : Row = record c.args.self.now { arrivals = c.as_slice-arrivals.result.now; departures = c.as_slice-departures.result.now } in
    let whole = before_all row c.args.calls.now c.loop-position.position (omega arith) c.loop-position.invariant in (
      (λ _. subst (λ (xs : List ℤ). IsRowBefore (record c.args.self.now { departures = xs }) c.args.calls.now) c.as_slice-departures.ensures
          (subst (λ (xs : List ℤ). IsRowBefore (record row { arrivals = xs }) c.args.calls.now) c.as_slice-arrivals.ensures whole)),
      (λ _. refl),
    )
