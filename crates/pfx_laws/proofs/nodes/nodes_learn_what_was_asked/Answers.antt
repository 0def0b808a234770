use Rattle.pfx_laws.proofs.Agreeing.{learn_what_was_asked}
use Rattle.pfx_laws.proofs.nodes.nodes_learn_what_was_asked.Goals as goal

pub returns : goal.returns
returns c = learn_what_was_asked
