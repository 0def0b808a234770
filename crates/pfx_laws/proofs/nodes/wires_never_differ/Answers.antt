use Rattle.pfx_laws.proofs.Carried.{wires_never_differ}
use Rattle.pfx_laws.proofs.nodes.wires_never_differ.Goals as goal

pub returns : goal.returns
returns c = wires_never_differ
