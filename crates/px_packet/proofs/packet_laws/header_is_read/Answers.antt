use Rattle.px_packet.proofs.Headers as headers
use Rattle.px_packet.proofs.packet_laws.header_is_read.Goals as goal

pub returns : goal.returns
returns c = headers.header_is_read
