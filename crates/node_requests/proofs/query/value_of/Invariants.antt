use Rattle.std.proofs.Common.{◌≡◌, length}
use Rattle.node_requests.specs.Queries.{value_of}
use Rattle.node_requests.specs.inner.Parameters.{pairs_of}
use Rattle.node_requests.proofs.query.value_of.Given as goal

abbrev pub invariant-loop-left : goal.invariant-loop-left
invariant-loop-left l = value_of l.name (pairs_of l.left) ≡ value_of l.name (pairs_of l.given)

abbrev pub decreases-loop-left : goal.decreases-loop-left
decreases-loop-left l = length l.left
