use Rattle.pfx_laws.proofs.Stretching.{traces_are_stretches}
use Rattle.pfx_laws.proofs.nodes.traces_are_stretches.Goals as goal

pub returns : goal.returns
returns g c = traces_are_stretches g.R.Records
