use Rattle.pfx_laws.proofs.Sealing as lemmas
use Rattle.pfx_laws.proofs.nodes.sealed_sockets_learn_what_was_asked.Goals as goal

pub returns : goal.returns
returns c = lemmas.sockets_learn_what_was_asked c.sealed_is_carried.ensures
