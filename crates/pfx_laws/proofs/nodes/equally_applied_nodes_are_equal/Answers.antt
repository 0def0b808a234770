use Rattle.pfx_laws.proofs.Agreeing.{equally_applied}
use Rattle.pfx_laws.proofs.nodes.equally_applied_nodes_are_equal.Goals as goal

pub returns : goal.returns
returns g c = equally_applied g.R.Records g.Q.Records
