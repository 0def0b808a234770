-- nothing is left of the wait, or what came is given, or an empty datagram, or nothing came
use Rattle.std.proofs.Common.{refl}
use Rattle.px_transport.proofs.Traffic.{quiet_by}
use Rattle.node_udp.proofs.Passing.{still_then, over_none, over_hears}
use Rattle.node_udp.proofs.udp.UdpWireWire.recv.Goals as goal

pub returns-then-not-is_waiting-clause-gave : goal.returns-then-not-is_waiting-clause-gave
returns-then-not-is_waiting-clause-gave g c =
    over_none (g.S.Socket.traffic c.args.self.now.socket) (g.S.Socket.traffic c.end_wait.new.self.socket) c.args.self.now c.end_wait.new.self
    (still_then (g.S.Socket.traffic c.args.self.now.socket) (g.S.Socket.traffic c.is_waiting.new.self.socket)
    (g.S.Socket.traffic c.end_wait.new.self.socket) c.args.self.now c.is_waiting.new.self c.end_wait.new.self
    c.is_waiting.ensures.still c.end_wait.ensures.still)

pub returns-in-Ok-clause-gave : goal.returns-in-Ok-clause-gave
returns-in-Ok-clause-gave g c =
    over_hears (g.S.Socket.traffic c.args.self.now.socket) (g.S.Socket.traffic c.is_waiting.new.self.socket) (g.S.Socket.traffic c.receive.new.self)
    (g.S.Socket.traffic c.pass.new.self.socket) (g.S.Socket.traffic c.admit.new.self.socket) c.args.self.now c.is_waiting.new.self
    (record c.is_waiting.new.self { socket = c.receive.new.self; since = c.now-self.result }) c.pass.new.self c.admit.new.self c.in-Ok.from
    c.in-Ok.n c.admit.result c.receive.new.into c.is_waiting.ensures.still c.in-Ok.ensures.came
    (record { quiet = λ es h. h; peers_is = refl; me_is = refl; last_is = refl; hears_is = refl }) c.pass.ensures.still c.admit.ensures.heard
    c.admit.ensures.whole c.in-Ok.ensures.fits

pub returns-in-Err-clause-gave : goal.returns-in-Err-clause-gave
returns-in-Err-clause-gave g c =
    over_none (g.S.Socket.traffic c.args.self.now.socket) (g.S.Socket.traffic c.end_wait-in-Err.new.self.socket) c.args.self.now c.end_wait-in-Err.new.self
    (still_then (g.S.Socket.traffic c.args.self.now.socket) (g.S.Socket.traffic c.is_waiting.new.self.socket)
    (g.S.Socket.traffic c.end_wait-in-Err.new.self.socket) c.args.self.now c.is_waiting.new.self c.end_wait-in-Err.new.self c.is_waiting.ensures.still
    (still_then (g.S.Socket.traffic c.is_waiting.new.self.socket) (g.S.Socket.traffic c.receive.new.self)
    (g.S.Socket.traffic c.end_wait-in-Err.new.self.socket) c.is_waiting.new.self (record c.is_waiting.new.self { socket = c.receive.new.self })
    c.end_wait-in-Err.new.self
    (record {
      quiet = quiet_by (g.S.Socket.traffic c.is_waiting.new.self.socket) (g.S.Socket.traffic c.receive.new.self) c.in-Err.ensures.came;
      peers_is = refl;
      me_is = refl;
      last_is = refl;
      hears_is = refl;
    })
    (still_then (g.S.Socket.traffic c.receive.new.self) (g.S.Socket.traffic c.met.new.self.socket) (g.S.Socket.traffic c.end_wait-in-Err.new.self.socket)
    (record c.is_waiting.new.self { socket = c.receive.new.self }) c.met.new.self c.end_wait-in-Err.new.self c.met.ensures.still c.end_wait-in-Err.ensures.still)))
