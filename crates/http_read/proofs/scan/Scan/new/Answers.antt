use Rattle.std.proofs.Common.{arith, refl}
use Rattle.std.proofs.lemmas.Bool.{false≢true}
use Rattle.http_read.specs.Lines.{lines_after}
use Rattle.http_read.proofs.scan.Scan.new.Goals as goal

pub returns-clause-scan : goal.returns-clause-scan
unfolding lines_after
returns-clause-scan c = record {
  size = refl;
  feeds = refl;
  line = refl;
  within = omega arith;
  blank = λ i h. absurd (omega arith);
  idle = λ e. refl;
  first = λ e. absurd (false≢true e);
  later = λ e. absurd (false≢true e);
}
