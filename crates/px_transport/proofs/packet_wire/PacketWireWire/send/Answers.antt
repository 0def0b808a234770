-- the packets of the datagram are handed over
use Rattle.std.proofs.Common.{rules, ◌≡◌, ◌∙◌, List, true, false, subst, refl, sym, ap, inl}
use Rattle.std.specs.Prelude.{◌⊎◌, IsTrue}
use Rattle.px_transport.specs.Wires.{Adds, IsQuiet}
use Rattle.px_packet.specs.Keyed as keyed
use Rattle.px_packet.specs.declared.start.Start.{Start}
use Rattle.px_transport.specs.Receiving.{Hears}
use Rattle.px_transport.specs.Sending.{ToMember, Sealer, SendsUpTo, packets_of, kept_with, HasName, is_other, can_be_cut, refilled_for}
use Rattle.px_transport.specs.Senders as senders
use Rattle.px_transport.specs.Wiring.{start_of, sealer_of, inner_of, Send}
use Rattle.px_transport.proofs.Duties.{can_from, cannot_from, call_adds}
use Rattle.px_transport.proofs.Sending.{sent_with}
use Rattle.px_transport.proofs.packet_wire.PacketWireWire.send.Goals as goal

pub returns-then-not-is_other-clause-sent : goal.returns-then-not-is_other-clause-sent
returns-then-not-is_other-clause-sent g c hs h es t =
    let w = c.args.self.now in (
      record {
        traffic = es;
        outgoing = senders.outgoing_of c.refill.new.self;
        heard = hs;
        failures = c.count_sent-self.result;
      },
      record {
        now = c.now-now.result;
        can = λ (f : IsTrue false). absurd cc;
        cannot = λ _. (refl, c.refill.ensures.refilled);
        sends = inl (refl, refl, c.refill.ensures.refilled);
        heard_is = refl;
      },
      record {
        traffic_is = t;
        outgoing_is = refl;
        heard_is = subst (λ x. Hears x.start hs w.receiver) (sym c.refill.ensures.rest.0) h;
        failures_is = refl;
      },
    )

pub returns-then-not-is_other-clause-handed : goal.returns-then-not-is_other-clause-handed
returns-then-not-is_other-clause-handed g c =
    let w = c.args.self.now in
    call_adds (g.W.Wire.traffic (inner_of w)) (g.W.Wire.traffic (inner_of w)) w _ _
    (record { sealer_is = c.refill.ensures.rest.0; keys_is = ap (λ k. keyed.keys_of k) c.refill.ensures.rest.1 })
    (λ hs h es t. let r = returns-then-not-is_other-clause-sent g c hs h es t in (r.0, Send _ _ _ r.1 refl, r.2))

pub returns-clause-sent : goal.returns-clause-sent
returns-clause-sent g c hs h es t =
    let w = c.args.self.now in
    let s = sealer_of w in
    let n = c.refill.new.self in
    let to = c.args.to in
    let now = c.now-now.result in
    let os = refilled_for (senders.outgoing_of w.sender) to now in
    let m = c.args.bytes.now in
    let sent = c.send-sent in
    let new = senders.outgoing_of sent.new.self in
    let below = g.W.Wire.traffic w.inner in
    let below' = g.W.Wire.traffic sent.new.inner in
    let e : c.start_of-echo.result ≡ start_of hs to = c.start_of-echo.ensures _ hs h in
    let other : is_other s to ≡ true = search rules in
    let P : Sealer → List ToMember → Start → Type 0 =
    λ x o echo. ((sent.result ≡ false) × IsQuiet below below' × (new ≡ o)) ⊎
    (HasName o to m × SendsUpTo x sent.result (packets_of o to echo m) (Adds below below') (kept_with o to m) new) in
    let size : can_be_cut m ≡ false → (sent.result ≡ false) × IsQuiet below below' × (new ≡ os) =
    λ f. let x = sent.ensures.size f in (x.0, x.1, x.2 ∙ c.refill.ensures.refilled) in
    let sends : P s os (start_of hs to) =
    subst (λ x. P x os (start_of hs to)) c.refill.ensures.rest.0
    (subst (λ o. P (senders.sealer_of n) o (start_of hs to)) c.refill.ensures.refilled
    (subst (P (senders.sealer_of n) (senders.outgoing_of n)) e sent.ensures.sends)) in
    let r = sent_with (HasName os to m) s (can_be_cut m) sent.result (packets_of os to (start_of hs to) m) below below' os
    (kept_with os to m) new es t size sends in (
      record { traffic = r.0; outgoing = new; heard = hs; failures = c.count_sent-self-2.result },
      record {
        now = now;
        can = can_from (is_other s to) (can_be_cut m) sent.result other (λ f. (sent.ensures.size f).0);
        cannot = λ f. r.2 (cannot_from (is_other s to) (can_be_cut m) other f);
        sends = r.3;
        heard_is = refl;
      },
      record {
        traffic_is = r.1;
        outgoing_is = refl;
        heard_is = subst (λ x. Hears x.start hs w.receiver) (sym (sent.ensures.rest.0 ∙ c.refill.ensures.rest.0)) h;
        failures_is = refl;
      },
    )

pub returns-clause-handed : goal.returns-clause-handed
returns-clause-handed g c =
    let w = c.args.self.now in
    let sent = c.send-sent.ensures.rest in
    call_adds (g.W.Wire.traffic (inner_of w)) (g.W.Wire.traffic c.send-sent.new.inner) w _ _
    (record {
      sealer_is = sent.0 ∙ c.refill.ensures.rest.0;
      keys_is = ap (λ k. keyed.keys_of k) (sent.1 ∙ c.refill.ensures.rest.1);
    })
    (λ hs h es t. let r = returns-clause-sent g c hs h es t in (r.0, Send _ _ _ r.1 refl, r.2))
