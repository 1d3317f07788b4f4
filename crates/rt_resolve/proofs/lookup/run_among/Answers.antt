use Rattle.std.proofs.Common.{sym, ◌∙◌, arith}
use Rattle.rt_resolve.proofs.RunLemmas.{above_name, below_name, named_at, named_none}
use Rattle.rt_resolve.proofs.lookup.run_among.Goals as goal

pub loop-low-preserved-in-Less : goal.loop-low-preserved-in-Less
loop-low-preserved-in-Less c = record {
  below = below_name c.args.runs.now c.args.name.now c.requires _ c.index-runs-middle.result (omega (arith, c.loop-low.invariant.within, c.loop-low-test.true)) c.index-runs-middle.is
      (sym c.compare.ensures ∙ c.in-Less.is);
  above = c.loop-low.invariant.above;
  within = c.loop-low.invariant.within;
}

pub returns-in-Equal : goal.returns-in-Equal
returns-in-Equal c =
    sym (named_at c.args.runs.now c.args.name.now _ c.index-runs-middle.result c.requires (omega (arith, c.loop-low.invariant.within, c.loop-low-test.true)) c.index-runs-middle.is
    (sym c.compare.ensures ∙ c.in-Equal.is))

pub loop-low-preserved : goal.loop-low-preserved
loop-low-preserved c = record {
  below = c.loop-low.invariant.below;
  above = above_name c.args.runs.now c.args.name.now c.requires _ c.index-runs-middle.result (omega (arith, c.loop-low.invariant.within, c.loop-low-test.true)) c.index-runs-middle.is
      (sym c.compare.ensures ∙ c.in-Greater.is);
  within = omega (arith, c.loop-low.invariant.within, c.loop-low-test.true);
}

pub returns : goal.returns
returns c = sym (named_none c.args.runs.now c.args.name.now c.loop-low.low c.loop-low.high c.loop-low-test.false c.loop-low.invariant.below c.loop-low.invariant.above)
