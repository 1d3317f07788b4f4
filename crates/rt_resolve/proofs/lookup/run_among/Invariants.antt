use Rattle.std.proofs.Common.{◌≡◌, ◌≤◌, ◌-◌, length}
use Rattle.std.specs.List.{AllWithin}
use Rattle.std.specs.declared.cmp.Ordering.TheVariants.{Less, Greater}
use Rattle.otp_model.specs.Names.{run_name_cmp}
use Rattle.rt_resolve.proofs.lookup.run_among.Given as goal

abbrev pub invariant-loop-low : goal.invariant-loop-low
invariant-loop-low l = record {
  below : AllWithin (λ run. run_name_cmp run.name l.name ≡ Less) l.runs 0 l.low;
  above : AllWithin (λ run. run_name_cmp run.name l.name ≡ Greater) l.runs l.high (length l.runs);
  within : l.high ≤ length l.runs;
}

abbrev pub decreases-loop-low : goal.decreases-loop-low
decreases-loop-low l = l.high - l.low
