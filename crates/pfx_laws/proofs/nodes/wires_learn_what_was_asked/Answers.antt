use Rattle.pfx_laws.proofs.Carried.{wires_learn_what_was_asked}
use Rattle.pfx_laws.proofs.nodes.wires_learn_what_was_asked.Goals as goal

pub returns : goal.returns
returns c = wires_learn_what_was_asked
