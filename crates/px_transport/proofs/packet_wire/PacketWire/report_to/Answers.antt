-- what is due is reported
use Rattle.std.proofs.Common.{rules, ◌≡◌, ◌∙◌, Option, Some, None, subst, sym, ap, refl, true}
use Rattle.px_transport.specs.Wires.{Adds}
use Rattle.px_packet.specs.declared.start.Start.{Start}
use Rattle.px_packet.specs.declared.held.PiecesHeld.{PiecesHeld}
use Rattle.px_packet.specs.Reassembling.{due_held}
use Rattle.px_transport.specs.Receiving.{Hears, of_member, reported_of}
use Rattle.px_transport.specs.Sending.{SendsUpTo}
use Rattle.px_transport.specs.Senders as senders
use Rattle.px_transport.specs.Wiring.{start_of, reports}
use Rattle.px_transport.proofs.Sending.{upto_at, upto_nothing}
use Rattle.px_transport.proofs.packet_wire.PacketWire.report_to.Goals as goal

pub returns-in_default-clause-does : goal.returns-in_default-clause-does
returns-in_default-clause-does g c hs h es t =
    let w = c.args.self.now in
    let s = senders.sealer_of w.sender in
    let os = senders.outgoing_of w.sender in
    let to = c.args.member in
    let due : due_held c.args.now (of_member hs to).unfinished ≡ None =
    sym (c.report.ensures.held _ hs h) ∙ search rules in (
      record { traffic = es; outgoing = os; heard = reported_of hs to c.args.now; failures = w.failures },
      record {
        is_all = true;
        sends = upto_nothing s true _ es os (λ _. ap (reports to (start_of hs to)) due);
        heard_is = refl;
        counts = refl;
      },
      record {
        traffic_is = t;
        outgoing_is = refl;
        heard_is = c.report.ensures.after _ hs h;
        failures_is = refl;
      },
    )

pub returns-clause-does : goal.returns-clause-does
returns-clause-does g c hs h es t =
    let w = c.args.self.now in
    let s = senders.sealer_of w.sender in
    let os = senders.outgoing_of w.sender in
    let new = c.send_held-sent.new.self in
    let to = c.args.member in
    let below = g.W.Wire.traffic w.inner in
    let below' = g.W.Wire.traffic c.send_held-sent.new.inner in
    let e : c.start_of-echo.result ≡ start_of hs to = c.start_of-echo.ensures _ hs h in
    let due : Some c.in-Some.held ≡ due_held c.args.now (of_member hs to).unfinished =
    search rules ∙ c.report.ensures.held _ hs h in
    let P : Start → Option PiecesHeld → Type 0 =
    λ echo o. SendsUpTo s c.send_held-sent.result (reports to echo o) (Adds below below') os (senders.outgoing_of new) in
    let sends : P c.start_of-echo.result (Some c.in-Some.held) = c.send_held-sent.ensures.sends in
    let r = upto_at s c.send_held-sent.result (reports to (start_of hs to) (due_held c.args.now (of_member hs to).unfinished))
    below below' os (senders.outgoing_of new) es t
    (subst (λ o. P (start_of hs to) o) due (subst (λ x. P x (Some c.in-Some.held)) e sends)) in (
      record {
        traffic = r.0;
        outgoing = senders.outgoing_of new;
        heard = reported_of hs to c.args.now;
        failures = c.count_sent-self.result;
      },
      record {
        is_all = c.send_held-sent.result;
        sends = r.2;
        heard_is = refl;
        counts = c.count_sent-self.ensures.counts;
      },
      record {
        traffic_is = r.1;
        outgoing_is = refl;
        heard_is = subst (λ x. Hears x.start (reported_of hs to c.args.now) c.report.new.self)
            (sym c.send_held-sent.ensures.rest.0) (c.report.ensures.after _ hs h);
        failures_is = refl;
      },
    )
