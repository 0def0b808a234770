use Rattle.pfx_laws.proofs.Carrying.{wires_are_histories}
use Rattle.pfx_laws.proofs.nodes.wires_are_histories.Goals as goal

pub returns : goal.returns
returns c = wires_are_histories
