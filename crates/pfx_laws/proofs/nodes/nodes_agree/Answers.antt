use Rattle.pfx_laws.proofs.Agreeing.{agree}
use Rattle.pfx_laws.proofs.nodes.nodes_agree.Goals as goal

pub returns : goal.returns
returns c = agree
