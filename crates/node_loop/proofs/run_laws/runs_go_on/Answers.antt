use Rattle.node_loop.proofs.Honest.{runs_go_on}
use Rattle.node_loop.proofs.run_laws.runs_go_on.Goals as goal

pub returns : goal.returns
returns g c = runs_go_on g.R.Records
