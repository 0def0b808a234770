-- the tag is behind it
use Rattle.px_packet.proofs.Sealing as sealing
use Rattle.px_packet.proofs.packet_laws.front_was_sealed.Goals as goal

pub returns : goal.returns
returns c = sealing.front_is
