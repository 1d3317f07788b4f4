use Rattle.std.proofs.Common.{rules, ℕ, Vec, Global, ◌-ℤ◌, unsigned_abs, List, FitsSigned, w64, subst, sym}
use Rattle.std.proofs.lemmas.Bool.{eqb-true}
use Rattle.std.proofs.lemmas.Int.{to_z-of_z}
use Rattle.std.proofs.lemmas.Result.{IfOk-weaker}
use Rattle.otp_base.specs.declared.memory.Memory.{Memory}
use Rattle.walk_table.specs.Near.{AreNumbersAround}
use Rattle.walk_table.specs.declared.near.Standing.{Standing}
use Rattle.walk_table.proofs.NearLemmas.{candidates_all, candidates_around}
use Rattle.walk_table.proofs.near.candidates.Goals as goal

pub returns-then-not-is_empty : goal.returns-then-not-is_empty
returns-then-not-is_empty c = IfOk-weaker {X = Vec ℕ Global} {Y = Memory} _ _ _
    (λ numbers. candidates_all c.args.ground.now.stops.now c.args.rows.now c.args.ground.now.profile.now c.args.from.now.number c.args.from.now.stop.now numbers.items) c.all_numbers.ensures

pub returns : goal.returns
returns c =
    let south : FitsSigned w64 c.args.northward.now.south = search rules in
    let y : FitsSigned w64 c.args.from.now.stop.now.y = search rules in
    let north = simp to_z-of_z at c.abs_diff-north.ensures in
    IfOk-weaker {X = Vec ℕ Global} {Y = Memory} _ _ _
    (λ numbers around. candidates_around c.args.northward.now.south c.args.ground.now.stops.now c.args.northward.now.standings.items c.args.rows.now c.args.ground.now.profile.now c.args.from.now.number c.args.from.now.stop.now numbers.items
    c.requires.stands c.requires.stop (eqb-true _ _ (sym (c.if-not-is_empty.ensures)))
    (subst (λ (list : List Standing). AreNumbersAround list (unsigned_abs (c.args.from.now.stop.now.y -ℤ c.args.northward.now.south)) c.args.ground.now.profile.now.reach numbers.items) c.deref.ensures.value
    (subst (λ north. AreNumbersAround c.deref.result.now north c.args.ground.now.profile.now.reach numbers.items) north around)))
    c.numbers_around.ensures
