-- some of what is kept was handed over again
use Rattle.node_loop.proofs.Given.{Again}
use Rattle.node_loop.proofs.running.resend.Given as goal

abbrev pub invariant-loop-member : goal.invariant-loop-member
invariant-loop-member g l = Again g.W.Wire l.fn.wire l.wire l.fn.resender l.resender
