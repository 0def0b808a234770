use Rattle.node_requests.proofs.Posted.{stops_posted}
use Rattle.node_requests.proofs.laws.stops_are_posted.Goals as goal

pub returns : goal.returns
returns c = stops_posted
