use Rattle.std.proofs.Common.{◌≤◌, get_or, inl, inr, subst, arith}
use Rattle.std.proofs.lemmas.Bool.{cases_lt}
use Rattle.std.proofs.lemmas.Option.{get_or_from_slice_get, slice_get_within}
use Rattle.walk_table.specs.declared.near.Standing.{Standing}
use Rattle.walk_table.proofs.near.numbers_from.Goals as goal
use Rattle.walk_table.proofs.near.numbers_from.Goals.{then-loop-at-test+else-saturating_sub-reach, else-loop-at-test}

pub returns : goal.returns
returns c = (
  λ place standing from is near.
      let within = slice_get_within c.args.standings.now place standing is in
      elim (cases_lt place c.loop-at.at) [
        | inl before ↦ c.loop-at.invariant.has place standing from before is
        | inr behind ↦ elim c.loop-at-test.branch [
          | then-loop-at-test+else-saturating_sub-reach w ↦
              let none : Standing = record { north = 0; number = 0 } in
              let rises = c.requires c.loop-at.at place none behind within in
              let same = get_or_from_slice_get c.args.standings.now place standing none is in
              let rises-to = subst (λ it. (get_or c.args.standings.now c.loop-at.at none).north ≤ it.north) same rises in
              absurd (omega (arith, w.if-saturating_sub-reach.false, w.saturating_sub.ensures, rises-to, near))
          | else-loop-at-test w ↦ absurd (omega (arith, within, behind))
        ]
      ],
  c.loop-at.invariant.only,
)
