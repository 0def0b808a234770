-- pieces are sent again, if their datagram is kept
use Rattle.std.proofs.Common.{◌≡◌, ◌∙◌, ◌++◌, List, subst, sym, refl, false}
use Rattle.px_transport.specs.Wires.{Adds}
use Rattle.px_packet.specs.declared.start.Start.{Start}
use Rattle.px_transport.specs.Receiving.{Hears}
use Rattle.px_transport.specs.Sending.{ToMember, Sealer, SendsUpTo, again, refilled_for}
use Rattle.px_transport.specs.Senders as senders
use Rattle.px_transport.specs.Wiring.{start_of}
use Rattle.px_transport.proofs.Sending.{upto_at, upto_nothing}
use Rattle.px_transport.proofs.packet_wire.PacketWire.pieces_again.Goals as goal

pub returns-then-not-is_other-clause-does : goal.returns-then-not-is_other-clause-does
returns-then-not-is_other-clause-does g c hs h es t =
    let w = c.args.self.now in
    let s = senders.sealer_of w.sender in
    let n = c.refill.new.self in
    let to = c.args.member in
    let os = refilled_for (senders.outgoing_of w.sender) to c.args.now in
    let ps = again os to (start_of hs to) c.args.held in
    let P : List ToMember → Type 0 = λ x. SendsUpTo s false ps (λ more. es ≡ es ++ more) os x in (
      record {
        traffic = es;
        outgoing = senders.outgoing_of n;
        heard = hs;
        failures = c.count_sent-self.result;
      },
      record {
        is_all = false;
        sends = subst P (sym c.refill.ensures.refilled) (upto_nothing s false ps es os (λ f. absurd cc));
        heard_is = refl;
        counts = c.count_sent-self.ensures.counts;
      },
      record {
        traffic_is = t;
        outgoing_is = refl;
        heard_is = subst (λ x. Hears x.start hs w.receiver) (sym c.refill.ensures.rest.0) h;
        failures_is = refl;
      },
    )

pub returns-clause-does : goal.returns-clause-does
returns-clause-does g c hs h es t =
    let w = c.args.self.now in
    let s = senders.sealer_of w.sender in
    let n = c.refill.new.self in
    let to = c.args.member in
    let os = refilled_for (senders.outgoing_of w.sender) to c.args.now in
    let sent = c.send_lacked-sent in
    let new = senders.outgoing_of sent.new.self in
    let below = g.W.Wire.traffic w.inner in
    let below' = g.W.Wire.traffic sent.new.inner in
    let e : c.start_of-echo.result ≡ start_of hs to = c.start_of-echo.ensures _ hs h in
    let P : Sealer → List ToMember → Start → Type 0 =
    λ x o echo. SendsUpTo x sent.result (again o to echo c.args.held) (Adds below below') o new in
    let sends : P s os (start_of hs to) =
    subst (λ x. P x os (start_of hs to)) c.refill.ensures.rest.0
    (subst (λ o. P (senders.sealer_of n) o (start_of hs to)) c.refill.ensures.refilled
    (subst (P (senders.sealer_of n) (senders.outgoing_of n)) e sent.ensures.sends)) in
    let r = upto_at s sent.result (again os to (start_of hs to) c.args.held) below below' os new es t sends in (
      record { traffic = r.0; outgoing = new; heard = hs; failures = c.count_sent-self-2.result },
      record {
        is_all = sent.result;
        sends = r.2;
        heard_is = refl;
        counts = c.count_sent-self-2.ensures.counts;
      },
      record {
        traffic_is = r.1;
        outgoing_is = refl;
        heard_is = subst (λ x. Hears x.start hs w.receiver)
            (sym (sent.ensures.rest.0 ∙ c.refill.ensures.rest.0)) h;
        failures_is = refl;
      },
    )
