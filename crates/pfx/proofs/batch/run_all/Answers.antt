use Rattle.std.proofs.Common.{arith}
use Rattle.pfx.proofs.Batches.{ran_none, ran_one}
use Rattle.pfx.proofs.batch.run_all.Goals as goal

pub loop-part-init : goal.loop-part-init
loop-part-init g c = ran_none _ _ _ (grind arith)

pub loop-part-preserved-then-not-is_good : goal.loop-part-preserved-then-not-is_good
loop-part-preserved-then-not-is_good g c =
    ran_one c.loop-part.invariant c.in-Some.ensures.steps c.in_ok-status.ensures (grind arith)

pub loop-part-preserved : goal.loop-part-preserved
loop-part-preserved g c =
    ran_one c.loop-part.invariant c.in-Some.ensures.steps c.in_ok-status.ensures (grind arith)
