-- what came is given, or an empty datagram, or nothing came
use Rattle.std.proofs.Common.{refl}
use Rattle.px_transport.proofs.Traffic.{quiet_by}
use Rattle.node_udp.proofs.Passing.{still_then, over_none, over_hears}
use Rattle.node_udp.proofs.udp.UdpWireWire.poll.Goals as goal

pub returns-then-not-set_blocking-clause-gave : goal.returns-then-not-set_blocking-clause-gave
returns-then-not-set_blocking-clause-gave g c =
    over_none (g.S.Socket.traffic c.args.self.now.socket) (g.S.Socket.traffic c.set_blocking.new.self.socket) c.args.self.now c.set_blocking.new.self
    c.set_blocking.ensures.still

pub returns-in-Ok-clause-gave : goal.returns-in-Ok-clause-gave
returns-in-Ok-clause-gave g c =
    let heard = record c.set_blocking.new.self { socket = c.receive.new.self } in
    over_hears (g.S.Socket.traffic c.args.self.now.socket) (g.S.Socket.traffic c.set_blocking.new.self.socket) (g.S.Socket.traffic c.receive.new.self)
    (g.S.Socket.traffic c.receive.new.self) (g.S.Socket.traffic c.admit.new.self.socket) c.args.self.now c.set_blocking.new.self heard heard
    c.admit.new.self c.in-Ok.from c.in-Ok.n c.admit.result c.receive.new.into c.set_blocking.ensures.still c.in-Ok.ensures.came
    (record { quiet = λ es h. h; peers_is = refl; me_is = refl; last_is = refl; hears_is = refl })
    (record { quiet = λ es h. h; peers_is = refl; me_is = refl; last_is = refl; hears_is = refl }) c.admit.ensures.heard c.admit.ensures.whole c.in-Ok.ensures.fits

pub returns-in-Err-clause-gave : goal.returns-in-Err-clause-gave
returns-in-Err-clause-gave g c =
    over_none (g.S.Socket.traffic c.args.self.now.socket) (g.S.Socket.traffic c.met.new.self.socket) c.args.self.now c.met.new.self
    (still_then (g.S.Socket.traffic c.args.self.now.socket) (g.S.Socket.traffic c.set_blocking.new.self.socket)
    (g.S.Socket.traffic c.met.new.self.socket) c.args.self.now c.set_blocking.new.self c.met.new.self c.set_blocking.ensures.still
    (still_then (g.S.Socket.traffic c.set_blocking.new.self.socket) (g.S.Socket.traffic c.receive.new.self)
    (g.S.Socket.traffic c.met.new.self.socket) c.set_blocking.new.self (record c.set_blocking.new.self { socket = c.receive.new.self })
    c.met.new.self
    (record {
      quiet = quiet_by (g.S.Socket.traffic c.set_blocking.new.self.socket) (g.S.Socket.traffic c.receive.new.self) c.in-Err.ensures.came;
      peers_is = refl;
      me_is = refl;
      last_is = refl;
      hears_is = refl;
    }) c.met.ensures.still))
