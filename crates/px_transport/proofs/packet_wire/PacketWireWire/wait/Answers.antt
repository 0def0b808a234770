-- what is due is done, and nothing is given
use Rattle.std.proofs.Common.{refl, arith}
use Rattle.px_transport.proofs.Traffic.{quiet_by}
use Rattle.px_transport.specs.Wiring.{inner_of, Wait}
use Rattle.px_transport.proofs.Duties.{call_adds}
use Rattle.px_transport.proofs.packet_wire.PacketWireWire.wait.Goals as goal

pub returns-clause-waits : goal.returns-clause-waits
returns-clause-waits g c hs h es t =
    let d = c.keep_up.ensures.does hs h es t in (
      record d.0 { failures = c.count_below-self.result },
      record {
        now = _;
        before = d.0;
        does = d.1;
        failed = c.count_below-self.result;
        counts = omega (arith, c.count_below-self.ensures, d.2.failures_is);
        after = refl;
      },
      record {
        traffic_is = c.wait.ensures.quiet d.0.traffic d.2.traffic_is;
        outgoing_is = d.2.outgoing_is;
        heard_is = d.2.heard_is;
        failures_is = refl;
      },
    )

pub returns-clause-quiet : goal.returns-clause-quiet
returns-clause-quiet g c =
    let w = c.args.self.now in
    quiet_by _ _ (call_adds (g.W.Wire.traffic (inner_of w)) _ w _ _
    (record { sealer_is = c.keep_up.ensures.member.sealer_is; keys_is = c.keep_up.ensures.member.keys_is })
    (λ hs h es t. let r = returns-clause-waits g c hs h es t in (r.0, Wait r.1 refl, r.2)))
