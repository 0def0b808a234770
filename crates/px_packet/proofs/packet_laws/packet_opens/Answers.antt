use Rattle.px_packet.proofs.Opening as opening
use Rattle.px_packet.proofs.packet_laws.packet_opens.Goals as goal

pub returns : goal.returns
returns c = opening.packet_opens
