-- what came, what is sent again, and the clock
use Rattle.std.proofs.Common.{rules, ◌≡◌, ◌∙◌, Option, refl, subst}
use Rattle.px_replica.specs.declared.fault.NodeFault.{NodeFault}
use Rattle.px_replica.specs.Faults.{fault_of}
use Rattle.px_transport.specs.Wires.{Moves}
use Rattle.node_loop.specs.Turns.{Served, in_loop}
use Rattle.node_loop.specs.Resends.{kept_of, requests_of}
use Rattle.node_loop.specs.Timing.{is_tick}
use Rattle.node_loop.proofs.Chains.{round_made}
use Rattle.node_loop.proofs.Looking.{looks_once}
use Rattle.node_loop.proofs.Clocks.{looks_at_once}
use Rattle.node_loop.proofs.Counting.{round_counts}
use Rattle.node_loop.proofs.Given.{over_then, over_same, over_resent, over_between, on_ok}
use Rattle.node_loop.proofs.running.round.Goals as goal

pub returns-in_err-handled-clause-served : goal.returns-in_err-handled-clause-served
returns-in_err-handled-clause-served g c =
    let is : fault_of c.drain.result ≡ fault_of c.from_residual.result = search rules in
    over_then (g.W.Wire.traffic c.args.wire.now) (g.W.Wire.traffic c.args.wire.now) (g.W.Wire.traffic c.drain.new.wire)
    (λ es. in_loop c.args.node.now es c.args.buffers.now) (λ es. in_loop c.args.node.now es c.begin.new.buffers)
    (λ es. in_loop c.drain.new.node es c.drain.new.buffers) _
    (over_same (g.W.Wire.traffic c.args.wire.now) (g.W.Wire.traffic c.args.wire.now)
    (λ es. in_loop c.args.node.now es c.args.buffers.now) (λ es. in_loop c.args.node.now es c.begin.new.buffers) (λ es t. t) (λ es. record {
      replica = refl;
      traffic = refl;
      kept = c.begin.ensures.kept;
      requests = c.begin.ensures.requests;
      hears = c.begin.ensures.hears;
    })) (subst (λ (a : Option NodeFault). Moves (g.W.Wire.traffic c.args.wire.now) (g.W.Wire.traffic c.drain.new.wire)
    (λ es es'. Served (in_loop c.args.node.now es c.begin.new.buffers) (in_loop c.drain.new.node es' c.drain.new.buffers) a))
    is c.drain.ensures.served)

pub returns-clause-served : goal.returns-clause-served
returns-clause-served g c =
    over_then (g.W.Wire.traffic c.args.wire.now) (g.W.Wire.traffic c.args.wire.now) (g.W.Wire.traffic c.tick_if.new.wire)
    (λ es. in_loop c.args.node.now es c.args.buffers.now) (λ es. in_loop c.args.node.now es c.begin.new.buffers)
    (λ es. in_loop c.tick_if.new.node es c.tick_if.new.buffers) _
    (over_same (g.W.Wire.traffic c.args.wire.now) (g.W.Wire.traffic c.args.wire.now)
    (λ es. in_loop c.args.node.now es c.args.buffers.now) (λ es. in_loop c.args.node.now es c.begin.new.buffers) (λ es t. t) (λ es. record {
      replica = refl;
      traffic = refl;
      kept = c.begin.ensures.kept;
      requests = c.begin.ensures.requests;
      hears = c.begin.ensures.hears;
    }))
    (over_then (g.W.Wire.traffic c.args.wire.now) (g.W.Wire.traffic c.drain.new.wire) (g.W.Wire.traffic c.tick_if.new.wire)
    (λ es. in_loop c.args.node.now es c.begin.new.buffers) (λ es. in_loop c.drain.new.node es c.drain.new.buffers)
    (λ es. in_loop c.tick_if.new.node es c.tick_if.new.buffers) _ c.in_ok-handled.ensures.served
    (over_then (g.W.Wire.traffic c.drain.new.wire) (g.W.Wire.traffic c.resend-has_own.new.wire) (g.W.Wire.traffic c.tick_if.new.wire)
    (λ es. in_loop c.drain.new.node es c.drain.new.buffers)
    (λ es. record (in_loop c.drain.new.node es c.drain.new.buffers) { kept = kept_of c.resend-has_own.new.resender; requests = requests_of c.resend-has_own.new.resender })
    (λ es. in_loop c.tick_if.new.node es c.tick_if.new.buffers) _
    (over_between (g.W.Wire.traffic c.drain.new.wire) (g.W.Wire.traffic c.resend-has_own.new.wire)
    (λ es. in_loop c.drain.new.node es c.drain.new.buffers)
    (λ es. record (in_loop c.drain.new.node es c.drain.new.buffers) { kept = kept_of c.resend-has_own.new.resender; requests = requests_of c.resend-has_own.new.resender })
    (over_resent (g.W.Wire.traffic c.drain.new.wire) (g.W.Wire.traffic c.resend-has_own.new.wire)
    (λ es. in_loop c.drain.new.node es c.drain.new.buffers)
    (λ es. record (in_loop c.drain.new.node es c.drain.new.buffers) { kept = kept_of c.resend-has_own.new.resender; requests = requests_of c.resend-has_own.new.resender })
    (kept_of c.drain.new.buffers.resender) c.resend-has_own.ensures.again (λ es again among. record {
      replica = refl;
      again = again;
      among = among;
      went = refl;
      kept = c.resend-has_own.ensures.kept;
      requests = c.resend-has_own.ensures.requests;
      hears = refl;
    }))) c.tick_if.ensures.served))

pub returns-clause-made : goal.returns-clause-made
returns-clause-made g c =
    on_ok c.tick_if.result (λ ticked es t.
    let r = c.in_ok-handled.ensures.saw es t in
    let again = c.resend-has_own.ensures.again in
    let s = ticked _ (again.2 r.0 r.1) in (
      s.0,
      s.1,
      round_made c.in_ok-handled.handled _ _ _ _ _ _ _ _ _ _ _ _ _ _ (g.T.Timer.timer_events c.args.timer.now) (g.T.Timer.timer_events c.action-action.new.timer)
          (g.T.Timer.timer_events c.repeats-is_due.new.self) (record {
            replica = refl;
            traffic = refl;
            kept = c.begin.ensures.kept;
            requests = c.begin.ensures.requests;
            hears = c.begin.ensures.hears;
          }) c.begin.ensures.unseen r.2 (c.tick_if.ensures.unseen ∙ c.action-action.ensures.looked) c.front-was.ensures.front c.view_of-view.ensures
          c.action-action.ensures.timer_events c.repeats-is_due.ensures.timer_events (record {
            replica = refl;
            again = again.0;
            among = again.1;
            went = refl;
            kept = c.resend-has_own.ensures.kept;
            requests = c.resend-has_own.ensures.requests;
            hears = refl;
          }) s.2,
    )) c.tick_if.ensures.ticked

pub returns-clause-looks : goal.returns-clause-looks
returns-clause-looks g c =
    on_ok c.tick_if.result (λ _. looks_once (g.T.Timer.timer_events c.args.timer.now) (g.T.Timer.timer_events c.action-action.new.timer)
    (g.T.Timer.timer_events c.repeats-is_due.new.self) c.args.now c.view_of-view.result (is_tick c.action-action.result) c.repeats-is_due.result c.drain.new.buffers.peer_progress c.action-action.ensures.timer_events c.repeats-is_due.ensures.timer_events) c.tick_if.ensures.ticked

pub returns-clause-at : goal.returns-clause-at
returns-clause-at g c =
    on_ok c.tick_if.result (λ _. looks_at_once (g.T.Timer.timer_events c.args.timer.now) (g.T.Timer.timer_events c.action-action.new.timer)
    (g.T.Timer.timer_events c.repeats-is_due.new.self) c.args.now c.view_of-view.result (is_tick c.action-action.result) c.repeats-is_due.result c.drain.new.buffers.peer_progress c.action-action.ensures.timer_events c.repeats-is_due.ensures.timer_events) c.tick_if.ensures.ticked

pub returns-clause-counts : goal.returns-clause-counts
returns-clause-counts g c =
    on_ok c.tick_if.result (λ counted es t.
    let r = c.in_ok-handled.ensures.counts es t in
    let again = c.resend-has_own.ensures.again in
    let s = counted _ (again.2 r.0 r.1) in (
      s.0,
      s.1,
      round_counts c.in_ok-handled.handled (is_tick c.action-action.result) _ _ _ _ _ _ _ _ _ c.begin.ensures.counts (record {
        replica = refl;
        traffic = refl;
        kept = c.begin.ensures.kept;
        requests = c.begin.ensures.requests;
        hears = c.begin.ensures.hears;
      }) r.2 (record {
        replica = refl;
        again = again.0;
        among = again.1;
        went = refl;
        kept = c.resend-has_own.ensures.kept;
        requests = c.resend-has_own.ensures.requests;
        hears = refl;
      }) s.2,
    )) c.tick_if.ensures.counts
