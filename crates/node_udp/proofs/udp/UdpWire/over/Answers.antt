-- nothing went over it yet
use Rattle.std.proofs.Common.{[]}
use Rattle.node_udp.proofs.udp.UdpWire.over.Goals as goal

pub returns-clause-traffic : goal.returns-clause-traffic
returns-clause-traffic g c new = c.with_socket.ensures.traffic (c.set_timeout.ensures.quiet [] new)
