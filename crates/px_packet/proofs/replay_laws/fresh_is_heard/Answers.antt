use Rattle.px_packet.proofs.Arrivals as arrivals
use Rattle.px_packet.proofs.replay_laws.fresh_is_heard.Goals as goal

pub returns : goal.returns
returns c = arrivals.fresh_is_heard
