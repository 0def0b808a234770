use Rattle.node_loop.proofs.Runs.{turns_traced}
use Rattle.node_loop.proofs.laws.turns_are_traces.Goals as goal

pub returns : goal.returns
returns g c = turns_traced g.R.Records g.met.R.Records.settled
