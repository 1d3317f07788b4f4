use Rattle.std.proofs.Common.{List, sym, subst}
use Rattle.std.specs.List.{AllPairs}
use Rattle.std.specs.List.Sorted.{IsPermutation}
use Rattle.otp_model.specs.Names.{IsNameBelow}
use Rattle.otp_model.specs.Resolution.{changes_of}
use Rattle.otp_model.specs.declared.change.Change.{Change}
use Rattle.rt_resolve.proofs.TallyLemmas.{kept_rise}
use Rattle.rt_resolve.proofs.lookup.Lookup.resolve.Goals as goal

pub returns-clause-changes : goal.returns-clause-changes
returns-clause-changes c =
    let kept = c.in_ok-changes-2.ensures.kept in
    record {
      same = subst (λ (cs : List Change). IsPermutation (changes_of c.args.self.now c.args.message.now) cs) (sym kept) c.in_ok-changes.ensures.changes;
      rise =
          subst (λ (cs : List Change). AllPairs (λ (a b : Change). IsNameBelow a.name b.name) cs) (sym kept)
          (kept_rise c.in_ok-changes.field-0.changes.entries c.in_ok-changes-2.ensures.ordered);
    }
