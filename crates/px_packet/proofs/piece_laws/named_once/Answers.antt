use Rattle.px_packet.proofs.Sending as lemmas
use Rattle.px_packet.proofs.piece_laws.named_once.Goals as goal

pub returns : goal.returns
returns c = lemmas.named_once
