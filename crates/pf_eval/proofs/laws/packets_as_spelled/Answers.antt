use Rattle.pf_eval.proofs.PacketSpelled.{packet_spelled}
use Rattle.pf_eval.proofs.laws.packets_as_spelled.Goals as goal

pub returns : goal.returns
returns c = λ text k. packet_spelled text k
