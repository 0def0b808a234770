-- turns, and the requests behind them
use Rattle.std.proofs.Common.{rules, ◌≡◌, Bool, Option, None, refl, subst, sym}
use Rattle.px_replica.specs.declared.fault.NodeFault.{NodeFault}
use Rattle.px_replica.specs.Faults.{fault_of}
use Rattle.px_transport.specs.Wires.{Moves}
use Rattle.node_loop.specs.Turns.{Served, in_loop}
use Rattle.node_loop.proofs.Chains.{served_then}
use Rattle.node_loop.proofs.Hosting.{hosted_served, hosted_on}
use Rattle.node_control.proofs.Rounds.{shown_hearing, still, served_over}
use Rattle.node_control.specs.inner.Observing.{IsShown}
use Rattle.node_control.specs.inner.Serving.{ServesAt}
use Rattle.node_control.proofs.running.pass.Goals as goal

pub returns-in_err-made-clause-hosted : goal.returns-in_err-made-clause-hosted
returns-in_err-made-clause-hosted g c =
    let is : fault_of c.round.result ≡ fault_of c.from_residual.result = search rules in
    served_over (g.W.Wire.traffic c.args.wire.now) (g.W.Wire.traffic c.round.new.wire)
    (λ es. in_loop c.args.service.now.handler.node es c.args.buffers.now) (λ es. in_loop c.round.new.node es c.round.new.buffers) _
    (subst (λ (a : Option NodeFault). Moves (g.W.Wire.traffic c.args.wire.now) (g.W.Wire.traffic c.round.new.wire)
    (λ es es'. Served (in_loop c.args.service.now.handler.node es c.args.buffers.now)
    (in_loop c.round.new.node es' c.round.new.buffers) a)) is c.round.ensures.served)

pub returns-else-not-serve-clause-hosted : goal.returns-else-not-serve-clause-hosted
returns-else-not-serve-clause-hosted g c es t =
    let r = c.in_ok-made.ensures.served es t in (
      r.0,
      r.1,
      hosted_on _ _ _ c.serve.ensures.asks.0 (hosted_served _ _ None r.2) c.serve.ensures.asks.2 refl refl refl refl,
    )

pub returns-then-not-serve-clause-hosted : goal.returns-then-not-serve-clause-hosted
returns-then-not-serve-clause-hosted g c es t =
    let r = c.in_ok-made.ensures.served es t in (
      r.0,
      c.wait.ensures.quiet r.0 r.1,
      hosted_on _ _ _ c.serve.ensures.asks.0 (hosted_served _ _ None r.2) c.serve.ensures.asks.2 refl refl refl refl,
    )

pub returns-in_err-made-clause-turns : goal.returns-in_err-made-clause-turns
returns-in_err-made-clause-turns g c none =
    let is : fault_of c.round.result ≡ fault_of c.from_residual.result = search rules in (
      subst (λ (a : Option NodeFault). Moves (g.W.Wire.traffic c.args.wire.now) (g.W.Wire.traffic c.round.new.wire)
          (λ es es'. Served (in_loop c.args.service.now.handler.node es c.args.buffers.now)
          (in_loop c.round.new.node es' c.round.new.buffers) a)) is c.round.ensures.served,
      none,
    )

pub returns-else-not-serve-clause-turns : goal.returns-else-not-serve-clause-turns
returns-else-not-serve-clause-turns g c none = (
  λ es t. (let r = c.in_ok-made.ensures.served es t in
      (r.0, r.1, served_then _ _ _ None r.2 (still _ _ r.0 c.round.new.buffers (c.serve.ensures.none none).0))),
  (c.serve.ensures.none none).1,
)

pub returns-then-not-serve-clause-turns : goal.returns-then-not-serve-clause-turns
returns-then-not-serve-clause-turns g c none = (
  λ es t. (let r = c.in_ok-made.ensures.served es t in
      (r.0, c.wait.ensures.quiet r.0 r.1, served_then _ _ _ None r.2 (still _ _ r.0 c.round.new.buffers (c.serve.ensures.none none).0))),
  c.wait.ensures.none (c.serve.ensures.none none).1,
)

pub returns-else-not-serve-clause-asked : goal.returns-else-not-serve-clause-asked
returns-else-not-serve-clause-asked g c es t =
    let r = c.in_ok-made.ensures.served es t in
    let a = c.serve.ensures.asks in
    (r.0, r.1, (in_loop c.round.new.node r.0 c.round.new.buffers, r.2, a.0, a.1, a.2))

pub returns-then-not-serve-clause-asked : goal.returns-then-not-serve-clause-asked
returns-then-not-serve-clause-asked g c es t =
    let r = c.in_ok-made.ensures.served es t in
    let a = c.serve.ensures.asks in
    (r.0, c.wait.ensures.quiet r.0 r.1, (in_loop c.round.new.node r.0 c.round.new.buffers, r.2, a.0, a.1, a.2))

pub returns-else-not-serve-clause-shown : goal.returns-else-not-serve-clause-shown
returns-else-not-serve-clause-shown g c = (
  c.in_ok-made.made,
  refl,
  (
    c.round.new.node,
    c.report.new.counters,
    subst (λ s. IsShown s c.in_ok-made.made c.args.service.now.counters c.report.new.counters) (sym c.hear.ensures)
        (shown_hearing _ _ _ _ _ c.report.ensures.shown),
    c.serve.ensures.kept.counted,
    subst (λ (b : Bool). ServesAt c.args.control.now (record c.args.service.now {
      handler = record c.args.service.now.handler { node = c.round.new.node };
      counters = c.report.new.counters;
      is_listening = b;
    }) c.serve.new.service) c.is_listening-service.ensures c.serve.ensures.serves,
  ),
)

pub returns-then-not-serve-clause-shown : goal.returns-then-not-serve-clause-shown
returns-then-not-serve-clause-shown g c = (
  c.in_ok-made.made,
  refl,
  (
    c.round.new.node,
    c.report.new.counters,
    subst (λ s. IsShown s c.in_ok-made.made c.args.service.now.counters c.report.new.counters) (sym c.hear.ensures)
        (shown_hearing _ _ _ _ _ c.report.ensures.shown),
    c.serve.ensures.kept.counted,
    subst (λ (b : Bool). ServesAt c.args.control.now (record c.args.service.now {
      handler = record c.args.service.now.handler { node = c.round.new.node };
      counters = c.report.new.counters;
      is_listening = b;
    }) c.serve.new.service) c.is_listening-service.ensures c.serve.ensures.serves,
  ),
)
