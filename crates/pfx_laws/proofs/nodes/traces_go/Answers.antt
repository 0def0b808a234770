use Rattle.pfx_laws.proofs.Stretching.{traces_go}
use Rattle.pfx_laws.proofs.nodes.traces_go.Goals as goal

pub returns : goal.returns
returns g c = traces_go g.R.Records
