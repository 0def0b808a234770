use Rattle.pfx_laws.proofs.Socketing.{equally_applied_at_sockets}
use Rattle.pfx_laws.proofs.nodes.equally_applied_at_sockets.Goals as goal

pub returns : goal.returns
returns g c = equally_applied_at_sockets g.R.Records g.Q.Records
