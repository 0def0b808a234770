use Rattle.node_loop.proofs.Honest.{runs_traced}
use Rattle.node_loop.proofs.run_laws.runs_are_traces.Goals as goal

pub returns : goal.returns
returns g c = runs_traced g.R.Records c.turns_are_traces.ensures
