use Rattle.px_packet.proofs.Bounded as lemmas
use Rattle.px_packet.proofs.piece_laws.stays_bounded.Goals as goal

pub returns : goal.returns
returns c = lemmas.stays_bounded
