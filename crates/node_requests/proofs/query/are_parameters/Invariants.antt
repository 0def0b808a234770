use Rattle.std.proofs.Common.{◌≡◌, length}
use Rattle.node_requests.specs.Queries.{are_parameters}
use Rattle.node_requests.specs.inner.Parameters.{pairs_of}
use Rattle.node_requests.proofs.query.are_parameters.Given as goal

abbrev pub invariant-loop-left : goal.invariant-loop-left
invariant-loop-left l = are_parameters l.target (pairs_of l.left) ≡ are_parameters l.target (pairs_of l.given)

abbrev pub decreases-loop-left : goal.decreases-loop-left
decreases-loop-left l = length l.left
