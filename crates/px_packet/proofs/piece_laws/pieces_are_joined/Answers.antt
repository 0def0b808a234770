use Rattle.px_packet.proofs.Complete as lemmas
use Rattle.px_packet.proofs.piece_laws.pieces_are_joined.Goals as goal

pub returns : goal.returns
returns c = lemmas.pieces_are_joined
