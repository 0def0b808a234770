use Rattle.pfx_laws.proofs.Sealing as lemmas
use Rattle.pfx_laws.proofs.nodes.sealed_sockets_go.Goals as goal

pub returns : goal.returns
returns c = lemmas.sockets_go c.sealed_is_carried.ensures
