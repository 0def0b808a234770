use Rattle.px_transport.proofs.Last as lemmas
use Rattle.px_transport.proofs.laws.last_piece_gives.Goals as goal

pub returns : goal.returns
returns c = lemmas.last_piece_gives c.pieces_are_joined.ensures
