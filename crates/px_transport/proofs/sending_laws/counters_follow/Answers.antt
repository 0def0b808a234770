use Rattle.px_transport.proofs.Counters as counters
use Rattle.px_transport.proofs.sending_laws.counters_follow.Goals as goal

pub returns : goal.returns
returns c = counters.counters_follow
