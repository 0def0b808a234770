use Rattle.pfx_laws.proofs.Tracing.{traces_are_histories}
use Rattle.pfx_laws.proofs.nodes.traces_are_histories.Goals as goal

pub returns : goal.returns
returns c = traces_are_histories
