-- some of what was kept is
use Rattle.node_loop.specs.Again.{AreAmong}
use Rattle.node_loop.specs.Keeping.{votes_in}
use Rattle.node_loop.proofs.state.Votes.clear.Given as goal

abbrev pub invariant-loop-vote : goal.invariant-loop-vote
invariant-loop-vote l = AreAmong (votes_in l.self) (votes_in l.fn.self)
