use Rattle.px_packet.proofs.Bits as lemmas
use Rattle.px_packet.proofs.piece_laws.bits_report.Goals as goal

pub returns : goal.returns
returns c = lemmas.bits_report
