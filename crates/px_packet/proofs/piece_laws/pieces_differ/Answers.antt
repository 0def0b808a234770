use Rattle.px_packet.proofs.PiecesApart as lemmas
use Rattle.px_packet.proofs.piece_laws.pieces_differ.Goals as goal

pub returns : goal.returns
returns c = lemmas.pieces_differ
