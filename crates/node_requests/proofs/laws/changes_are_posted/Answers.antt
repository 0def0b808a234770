use Rattle.node_requests.proofs.Posted.{changes_posted}
use Rattle.node_requests.proofs.laws.changes_are_posted.Goals as goal

pub returns : goal.returns
returns c = changes_posted
