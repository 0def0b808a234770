use Rattle.px_packet.proofs.Opening as opening
use Rattle.px_packet.proofs.packet_laws.opened_was_sealed.Goals as goal

pub returns : goal.returns
returns c = opening.opened_was_sealed
