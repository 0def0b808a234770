use Rattle.node_loop.proofs.Honest.{hosted_runs_traced}
use Rattle.node_loop.proofs.run_laws.hosted_runs_are_traces.Goals as goal

pub returns : goal.returns
returns g c = hosted_runs_traced g.R.Records c.hostings_are_traces.ensures
