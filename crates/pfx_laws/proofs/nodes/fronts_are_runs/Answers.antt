use Rattle.pfx_laws.proofs.Fronts.{at_sockets}
use Rattle.pfx_laws.proofs.nodes.fronts_are_runs.Goals as goal

pub returns : goal.returns
returns c = at_sockets
