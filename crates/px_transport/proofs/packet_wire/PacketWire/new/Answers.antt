-- a wire that is new
use Rattle.std.proofs.Common.{refl}
use Rattle.px_transport.proofs.Duties.{new_sealed}
use Rattle.px_transport.proofs.packet_wire.PacketWire.new.Goals as goal

pub returns-clause-traffic : goal.returns-clause-traffic
returns-clause-traffic g c t =
    new_sealed (g.W.Wire.traffic c.args.inner) _ _ refl c.in_ok-none_sent.ensures c.in_ok-new.ensures t
