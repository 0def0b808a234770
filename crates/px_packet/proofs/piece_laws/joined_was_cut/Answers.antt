use Rattle.px_packet.proofs.Reassembled as lemmas
use Rattle.px_packet.proofs.piece_laws.joined_was_cut.Goals as goal

pub returns : goal.returns
returns c = lemmas.joined_was_cut
