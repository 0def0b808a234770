use Rattle.pfx_laws.proofs.Carried.{equally_applied_over_wires}
use Rattle.pfx_laws.proofs.nodes.equally_applied_over_wires.Goals as goal

pub returns : goal.returns
returns g c = equally_applied_over_wires g.R.Records g.Q.Records
