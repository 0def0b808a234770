use Rattle.node_loop.proofs.Hosting.{hostings_traced}
use Rattle.node_loop.proofs.laws.hostings_are_traces.Goals as goal

pub returns : goal.returns
returns g c = hostings_traced g.R.Records g.met.R.Records.settled
