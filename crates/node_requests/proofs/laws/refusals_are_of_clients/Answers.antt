use Rattle.node_requests.proofs.Posted.{refusals_clients}
use Rattle.node_requests.proofs.laws.refusals_are_of_clients.Goals as goal

pub returns : goal.returns
returns c = refusals_clients
