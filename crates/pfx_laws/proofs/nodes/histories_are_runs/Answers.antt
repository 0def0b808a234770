use Rattle.pfx_laws.proofs.Agreeing.{are_runs}
use Rattle.pfx_laws.proofs.nodes.histories_are_runs.Goals as goal

pub returns : goal.returns
returns c = are_runs
