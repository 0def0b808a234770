use Rattle.std.proofs.Common.{◌≡◌}
use Rattle.px_replica.specs.Replicas.{learned_by}
use Rattle.pf_node.specs.Requests.{place_below}
use Rattle.pf_node.proofs.requests.place_below.Given as goal

-- nothing was found from here on
abbrev pub invariant-loop-left : goal.invariant-loop-left
invariant-loop-left g l = place_below (learned_by l.replica) l.origin l.number l.left ≡ place_below (learned_by l.replica) l.origin l.number l.fn.end

abbrev pub decreases-loop-left : goal.decreases-loop-left
decreases-loop-left g l = l.left
