use Rattle.pfx.specs.Batches.{lines_of}
use Rattle.pfx.proofs.Batches.{RanTo}
use Rattle.pfx.proofs.batch.run_all.Given as goal

abbrev pub invariant-loop-part : goal.invariant-loop-part
invariant-loop-part g l = RanTo (g.T.Runner.did l.fn.runner) (g.T.Runner.did l.runner) (lines_of l.fn.batch)
    l.part-iterator l.are_good
