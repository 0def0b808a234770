-- the numbers stand behind the heading
use Rattle.std.proofs.Common.{append_assoc}
use Rattle.node_requests.proofs.metrics.push_control.Goals as goal

pub returns : goal.returns
returns c = rw (c.in_ok-push_heading.ensures, append_assoc) at c.push_samples.ensures
