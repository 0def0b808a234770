use Rattle.px_packet.proofs.Joining as lemmas
use Rattle.px_packet.proofs.piece_laws.cut_is_joined.Goals as goal

pub returns : goal.returns
returns c = lemmas.cut_is_joined
