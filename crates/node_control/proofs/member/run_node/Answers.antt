-- no turn, or those that were made
use Rattle.std.proofs.Common.{refl, inl, inr}
use Rattle.px_replica.specs.Faults.{fault_of}
use Rattle.node_loop.proofs.Still.{still, unasked}
use Rattle.node_control.proofs.Rounds.{hosts, host_reports, on_front, serves, reports}
use Rattle.node_control.proofs.member.run_node.Goals as goal

pub returns-in_default-clause-hosted : goal.returns-in_default-clause-hosted
returns-in_default-clause-hosted g c es t =
    (es, t, unasked c.args.node es c.args.hears_asks _ (inl (inr (inr refl))))

pub returns-in_default-clause-turns : goal.returns-in_default-clause-turns
returns-in_default-clause-turns g c none es t = (es, t, still c.args.node es _ (inr (inr refl)))

pub returns-in_default-new-clause-hosted : goal.returns-in_default-new-clause-hosted
returns-in_default-new-clause-hosted g c es t =
    (es, t, unasked c.args.node es c.args.hears_asks _ (inl (inr (inr refl))))

pub returns-in_default-new-clause-turns : goal.returns-in_default-new-clause-turns
returns-in_default-new-clause-turns g c none es t = (es, t, still c.args.node es _ (inr (inr refl)))

pub returns-clause-hosted : goal.returns-clause-hosted
returns-clause-hosted g c es t =
    let r = c.pass_on-is_stopped.ensures.hosted es t in (
      r.0,
      r.1,
      hosts _ _ _ _ es r.0 c.in-Ok-new.buffers c.pass_on-is_stopped.new.buffers c.args.hears_asks (fault_of c.pass_on-is_stopped.result) _
          c.new-service.ensures.node c.close-node.ensures c.in-Ok-new.ensures.kept c.in-Ok-new.ensures.requests c.in-Ok-new.ensures.hears
          r.2 (host_reports _ _ c.pass_on-is_stopped.result _ c.ended_of.ensures),
    )

pub returns-clause-turns : goal.returns-clause-turns
returns-clause-turns g c none es t =
    let r = c.pass_on-is_stopped.ensures.turns none es t in (
      r.0,
      r.1,
      serves _ _ _ _ es r.0 c.in-Ok-new.buffers c.pass_on-is_stopped.new.buffers c.args.hears_asks (fault_of c.pass_on-is_stopped.result) _
          c.new-service.ensures.node c.close-node.ensures c.in-Ok-new.ensures.kept c.in-Ok-new.ensures.requests c.in-Ok-new.ensures.hears
          r.2 (reports _ _ c.pass_on-is_stopped.result _ c.ended_of.ensures (c.pass_on-is_stopped.ensures.none none)),
    )

pub returns-clause-made : goal.returns-clause-made
returns-clause-made g c =
    on_front _ _ _ c.pass_on-is_stopped.result c.ended_of.result c.ended_of.ensures c.pass_on-is_stopped.ensures.made
