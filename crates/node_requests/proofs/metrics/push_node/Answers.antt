-- the numbers are the figures
use Rattle.node_requests.proofs.metrics.push_node.Goals as goal

pub returns : goal.returns
returns c = rw (← c.from.ensures, ← c.from-2.ensures, ← c.from-3.ensures, ← c.from-4.ensures) c.push_metrics.ensures
