-- nothing went over it yet
use Rattle.std.proofs.Common.{[], refl}
use Rattle.node_udp.proofs.udp.UdpWire.with_socket.Goals as goal

pub returns-clause-traffic : goal.returns-clause-traffic
returns-clause-traffic g c new = record {
  passages = [];
  below_is = new;
  above_is = refl;
  sound = tt;
  last_is = refl;
  answers = λ member. tt;
}
