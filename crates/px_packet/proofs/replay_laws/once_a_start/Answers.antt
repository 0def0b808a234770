use Rattle.px_packet.proofs.Arrivals as arrivals
use Rattle.px_packet.proofs.replay_laws.once_a_start.Goals as goal

pub returns : goal.returns
returns c = arrivals.once_a_start
