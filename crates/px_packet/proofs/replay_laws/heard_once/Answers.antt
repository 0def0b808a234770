use Rattle.px_packet.proofs.Arrivals as arrivals
use Rattle.px_packet.proofs.replay_laws.heard_once.Goals as goal

pub returns : goal.returns
returns c = arrivals.heard_once
