use Rattle.pfx_laws.proofs.Socketing.{sockets_learn_what_was_asked}
use Rattle.pfx_laws.proofs.nodes.sockets_learn_what_was_asked.Goals as goal

pub returns : goal.returns
returns c = sockets_learn_what_was_asked
