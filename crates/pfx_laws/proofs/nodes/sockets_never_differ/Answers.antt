use Rattle.pfx_laws.proofs.Socketing.{sockets_never_differ}
use Rattle.pfx_laws.proofs.nodes.sockets_never_differ.Goals as goal

pub returns : goal.returns
returns c = sockets_never_differ
