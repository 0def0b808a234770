-- the state is sent, if it is due
use Rattle.std.proofs.Common.{◌≡◌, subst, sym, refl}
use Rattle.px_transport.specs.Wires.{Adds}
use Rattle.px_packet.specs.declared.start.Start.{Start}
use Rattle.px_transport.specs.Receiving.{Hears}
use Rattle.px_transport.specs.Sending.{SendsUpTo, states, stated_for}
use Rattle.px_transport.specs.Senders as senders
use Rattle.px_transport.specs.Wiring.{start_of}
use Rattle.px_transport.proofs.Sending.{upto_at}
use Rattle.px_transport.proofs.packet_wire.PacketWire.state_to.Goals as goal

pub returns-clause-does : goal.returns-clause-does
returns-clause-does g c hs h es t =
    let w = c.args.self.now in
    let s = senders.sealer_of w.sender in
    let os = senders.outgoing_of w.sender in
    let new = c.send_state-sent.new.self in
    let to = c.args.member in
    let below = g.W.Wire.traffic w.inner in
    let below' = g.W.Wire.traffic c.send_state-sent.new.inner in
    let e : c.start_of-echo.result ≡ start_of hs to = c.start_of-echo.ensures _ hs h in
    let P : Start → Type 0 =
    λ echo. SendsUpTo s c.send_state-sent.result (states os to echo c.args.now) (Adds below below')
    (stated_for os to echo c.args.now) (senders.outgoing_of new) in
    let r = upto_at s c.send_state-sent.result (states os to (start_of hs to) c.args.now) below below'
    (stated_for os to (start_of hs to) c.args.now) (senders.outgoing_of new) es t (subst P e c.send_state-sent.ensures.sends) in (
      record { traffic = r.0; outgoing = senders.outgoing_of new; heard = hs; failures = c.count_sent-self.result },
      record {
        is_all = c.send_state-sent.result;
        sends = r.2;
        heard_is = refl;
        counts = c.count_sent-self.ensures.counts;
      },
      record {
        traffic_is = r.1;
        outgoing_is = refl;
        heard_is = subst (λ x. Hears x.start hs w.receiver) (sym c.send_state-sent.ensures.rest.0) h;
        failures_is = refl;
      },
    )
