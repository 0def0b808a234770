use Rattle.px_packet.proofs.Reassembled as lemmas
use Rattle.px_packet.proofs.piece_laws.report_keeps.Goals as goal

pub returns : goal.returns
returns c = lemmas.report_keeps
