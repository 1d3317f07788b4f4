use Rattle.std.proofs.Common.{◌≡◌, false, sym, ◌∙◌}
use Rattle.std.specs.Prelude.{is_some}
use Rattle.std.specs.BTreeMap.{get}
use Rattle.rt_resolve.specs.Tallies.{key_cmp, key_of}
use Rattle.rt_resolve.proofs.TallyLemmas.{one_kept}
use Rattle.rt_resolve.proofs.tally.Tally.note.Goals as goal

pub returns : goal.returns
returns c = λ answers so_far.
    let new : is_some (get key_cmp c.args.self.now.changes (key_of c.args.change.name)) ≡ false = sym c.contains_key.ensures ∙ c.if-contains_key.false in
    one_kept answers c.args.self.now c.args.change c.insert.new.self new c.in_ok-insert.ensures.entries c.in_ok-insert.ensures.updates so_far
