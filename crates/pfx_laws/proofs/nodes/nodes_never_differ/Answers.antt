use Rattle.pfx_laws.proofs.Agreeing.{never_differ}
use Rattle.pfx_laws.proofs.nodes.nodes_never_differ.Goals as goal

pub returns : goal.returns
returns c = never_differ
