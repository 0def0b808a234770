-- a report more, and all of them
use Rattle.std.proofs.Common.{rules, ◌≡◌, ◌∙◌, [], ◌∷◌, true, false, replicate, ap, sym, subst, refl, arith}
use Rattle.std.specs.Prelude.{if◌then◌else◌}
use Rattle.px_transport.specs.Sending.{is_other}
use Rattle.px_transport.specs.Wiring.{State, Report, DoesAll, duties, sealer_of, inner_of, state_of}
use Rattle.px_transport.proofs.Duties.{does_next, reports_more, state_eq}
use Rattle.px_transport.proofs.packet_wire.PacketWire.keep_up_with.Goals as goal

pub loop-preserved : goal.loop-preserved
loop-preserved g c =
    let inv = c.loop.invariant in
    let s = sealer_of c.args.self.now in
    let m = c.args.member in
    let now = c.args.now in
    record {
      does = λ hs h es t.
          let r = inv.does hs h es t in
          let n = c.report_to.ensures.does r.0.heard r.2.heard_is r.0.traffic r.2.traffic_is in
          let k0 = state_of es hs c.args.self.now in
          let is = state_eq (g.W.Wire.traffic (inner_of c.loop.self)) r.0 c.loop.self r.2 in (
            n.0,
            reports_more s now m c.loop.counter k0 n.0
                (does_next s (sealer_of c.loop.self) now (State m ∷ replicate c.loop.counter (Report m)) (Report m) k0 r.0
                (state_of r.0.traffic r.0.heard c.loop.self) n.0 inv.member.sealer_is is r.1
                n.1),
            n.2,
          );
      member = record {
        sealer_is = c.report_to.ensures.member.sealer_is ∙ inv.member.sealer_is;
        keys_is = c.report_to.ensures.member.keys_is ∙ inv.member.keys_is;
      };
      count = record {
        dropped_is = c.report_to.ensures.count.dropped_is ∙ inv.count.dropped_is;
        copies_is = c.report_to.ensures.count.copies_is ∙ inv.count.copies_is;
      };
      members = ap (λ s. s.members) c.report_to.ensures.member.sealer_is ∙ inv.members;
      rises = omega (arith, c.report_to.ensures.rises, inv.rises);
      same = c.report_to.ensures.same ∙ inv.same;
    }

pub returns-clause-does : goal.returns-clause-does
returns-clause-does g c hs h es t =
    let r = c.loop.invariant.does hs h es t in
    let s = sealer_of c.args.self.now in
    let m = c.args.member in
    let k0 = state_of es hs c.args.self.now in
    let n : c.loop.counter ≡ 8 = search rules in
    let other : is_other s m ≡ true = search rules in
    let ds : State m ∷ replicate c.loop.counter (Report m) ≡ duties s m =
    ap (λ x. State m ∷ replicate x (Report m)) n
    ∙ sym (ap (λ b. if b then State m ∷ replicate 8 (Report m) else []) other) in
    (r.0, subst (λ x. DoesAll s c.args.now x k0 r.0) ds r.1, r.2)

pub returns-then-not-is_other-clause-does : goal.returns-then-not-is_other-clause-does
returns-then-not-is_other-clause-does g c hs h es t =
    let s = sealer_of c.args.self.now in
    let m = c.args.member in
    let k0 = state_of es hs c.args.self.now in
    let other : is_other s m ≡ false = search rules in
    let ds : [] ≡ duties s m = sym (ap (λ b. if b then State m ∷ replicate 8 (Report m) else []) other) in (
      k0,
      subst (λ x. DoesAll s c.args.now x k0 k0) ds refl,
      record { traffic_is = t; outgoing_is = refl; heard_is = h; failures_is = refl },
    )
