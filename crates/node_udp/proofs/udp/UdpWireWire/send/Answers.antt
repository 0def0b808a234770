-- it goes to its address, or there is none
use Rattle.std.proofs.Common.{◌++◌, ◌∷◌, [], refl, sym, subst}
use Rattle.px_transport.specs.Wires.{Adds, Handed}
use Rattle.node_udp.specs.Members.{socket_of}
use Rattle.node_udp.specs.Sockets.{WentOver}
use Rattle.node_udp.proofs.Passing.{over_still, over_sends, over_loses}
use Rattle.node_udp.proofs.udp.UdpWireWire.send.Goals as goal
use Rattle.node_udp.proofs.udp.UdpWireWire.send.Goals.{in-Some, in-None}

pub returns-clause-handed : goal.returns-clause-handed
returns-clause-handed g c =
    let sent : Adds (WentOver (g.S.Socket.traffic (socket_of c.args.self.now)) c.args.self.now)
    (WentOver (g.S.Socket.traffic (socket_of c.match-address.self)) c.match-address.self) (Handed c.args.to c.args.bytes.now ∷ []) =
    elim c.match-address.branch [
      | in-Some w ↦ subst
          (λ (s : _). Adds (WentOver (g.S.Socket.traffic (socket_of c.args.self.now)) c.args.self.now)
          (WentOver (g.S.Socket.traffic (socket_of s)) s) (Handed c.args.to c.args.bytes.now ∷ [])) (sym w.self-is)
          (over_sends (g.S.Socket.traffic c.args.self.now.socket) (g.S.Socket.traffic w.sent_to-sent.new.self.socket) c.args.self.now
          w.sent_to-sent.new.self c.args.to c.args.bytes.now w.in-Some.there c.address.result w.in-Some.is
          w.sent_to-sent.ensures.rest.0 w.sent_to-sent.ensures.rest.1 w.sent_to-sent.ensures.last
          w.sent_to-sent.ensures.went w.in-Some.ensures.there c.address.ensures.client)
      | in-None w ↦ subst
          (λ (s : _). Adds (WentOver (g.S.Socket.traffic (socket_of c.args.self.now)) c.args.self.now)
          (WentOver (g.S.Socket.traffic (socket_of s)) s) (Handed c.args.to c.args.bytes.now ∷ [])) (sym w.self-is)
          (over_loses (g.S.Socket.traffic c.args.self.now.socket) (g.S.Socket.traffic c.args.self.now.socket) c.args.self.now c.args.self.now
          c.args.to c.args.bytes.now c.address.result w.in-None.is (record { quiet = λ es h. h; peers_is = refl; me_is = refl; last_is = refl; hears_is = refl })
          (w.in-None.ensures.none refl) c.address.ensures.client)
    ] in
    λ es h. over_still (g.S.Socket.traffic (socket_of c.match-address.self)) (g.S.Socket.traffic (socket_of c.match-address.self))
    c.match-address.self (record c.match-address.self { failures = c.saturating_add-self.result })
    (record { quiet = λ fs i. i; peers_is = refl; me_is = refl; last_is = refl; hears_is = refl }) (es ++ Handed c.args.to c.args.bytes.now ∷ []) (sent es h)
