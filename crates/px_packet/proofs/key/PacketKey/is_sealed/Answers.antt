-- what is too short for a tag has none
use Rattle.std.proofs.Common.{arith}
use Rattle.px_packet.specs.Keyed.{block_of}
use Rattle.px_packet.proofs.Sealing.{is_short}
use Rattle.px_packet.proofs.key.PacketKey.is_sealed.Goals as goal

pub returns-in-None : goal.returns-in-None
returns-in-None c = is_short (block_of c.args.self.now) c.args.packet.now (omega (arith, c.in-None.ensures.cases))
