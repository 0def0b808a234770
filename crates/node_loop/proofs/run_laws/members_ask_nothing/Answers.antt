use Rattle.node_loop.proofs.Asking.{members_ask_nothing}
use Rattle.node_loop.proofs.run_laws.members_ask_nothing.Goals as goal

pub returns : goal.returns
returns g c = members_ask_nothing g.R.Records
