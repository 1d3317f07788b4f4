use Rattle.std.proofs.Common.{◌<◌, ℕ, subst, inl, inr, unsigned_abs, ◌-ℤ◌, rules, FitsSigned, w64}
use Rattle.std.proofs.lemmas.Int.{to_z-of_z}
use Rattle.walk_table.proofs.WalkLemmas.{beyond}
use Rattle.walk_table.proofs.walks.square_within.Goals as goal
use Rattle.walk_table.proofs.walks.square_within.Goals.{then-dx-reach-via-then-dx-reach, then-dx-reach-via-else-dx-reach+then-dy-reach}

pub returns-then-dx-reach : goal.returns-then-dx-reach
returns-then-dx-reach c =
    let px : FitsSigned w64 c.args.p.now.x = search rules in
    let py : FitsSigned w64 c.args.p.now.y = search rules in
    let qx : FitsSigned w64 c.args.q.now.x = search rules in
    let qy : FitsSigned w64 c.args.q.now.y = search rules in
    let dx = simp to_z-of_z at c.abs_diff-dx.ensures in
    let dy = simp to_z-of_z at c.abs_diff-dy.ensures in
    beyond c.args.reach (unsigned_abs (c.args.p.now.x -ℤ c.args.q.now.x)) (unsigned_abs (c.args.p.now.y -ℤ c.args.q.now.y))
    (elim c.then-dx-reach.branch [
      | then-dx-reach-via-then-dx-reach w ↦ inl (subst (λ (n : ℕ). c.args.reach < n) dx w.if-dx-reach.true)
      | then-dx-reach-via-else-dx-reach+then-dy-reach w ↦ inr (subst (λ (n : ℕ). c.args.reach < n) dy w.if-dy-reach.true)
    ])
