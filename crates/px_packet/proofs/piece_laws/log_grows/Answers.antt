use Rattle.px_packet.proofs.Reassembled as lemmas
use Rattle.px_packet.proofs.piece_laws.log_grows.Goals as goal

pub returns : goal.returns
returns c = lemmas.log_grows
