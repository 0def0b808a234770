-- a member more
use Rattle.std.proofs.Common.{◌∙◌, ap, arith}
use Rattle.px_transport.specs.Wiring.{sealer_of, inner_of, state_of}
use Rattle.px_transport.proofs.Duties.{member_done, state_eq}
use Rattle.px_transport.proofs.packet_wire.PacketWire.keep_up.Goals as goal

pub loop-member-preserved : goal.loop-member-preserved
loop-member-preserved g c =
    let inv = c.loop-member.invariant in
    let s = sealer_of c.args.self.now in
    record {
      does = λ hs h es t.
          let r = inv.does hs h es t in
          let w = c.loop-member.self in
          let n = c.keep_up_with.ensures.does r.0.heard r.2.heard_is r.0.traffic r.2.traffic_is in
          let k0 = state_of es hs c.args.self.now in (
            n.0,
            member_done s (sealer_of w) c.args.now c.loop-member.member k0 r.0
                (state_of r.0.traffic r.0.heard w) n.0 inv.member.sealer_is
                (state_eq (g.W.Wire.traffic (inner_of w)) r.0 w r.2) r.1 n.1,
            n.2,
          );
      member = record {
        sealer_is = c.keep_up_with.ensures.member.sealer_is ∙ inv.member.sealer_is;
        keys_is = c.keep_up_with.ensures.member.keys_is ∙ inv.member.keys_is;
      };
      count = record {
        dropped_is = c.keep_up_with.ensures.count.dropped_is ∙ inv.count.dropped_is;
        copies_is = c.keep_up_with.ensures.count.copies_is ∙ inv.count.copies_is;
      };
      members = ap (λ s. s.members) c.keep_up_with.ensures.member.sealer_is ∙ inv.members;
      rises = omega (arith, c.keep_up_with.ensures.rises, inv.rises);
      same = c.keep_up_with.ensures.same ∙ inv.same;
    }
