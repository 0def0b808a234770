-- one look, and the votes that were sent
use Rattle.std.proofs.Common.{true, false, sym, subst}
use Rattle.std.proofs.lemmas.Bool.{lt-ltb, le-ltb}
use Rattle.px_transport.specs.Wires.{Adds}
use Rattle.px_transport.proofs.Traffic.{adds_none}
use Rattle.node_loop.specs.Timing.{sends_if, is_tick}
use Rattle.node_loop.proofs.Chains.{looked_so}
use Rattle.node_loop.proofs.running.action.Goals as goal
use Rattle.node_loop.proofs.running.action.Goals.{then-view-peer_progress, else-view-peer_progress}

pub returns-clause-timer_events : goal.returns-clause-timer_events
returns-clause-timer_events g c =
    elim c.if-view-peer_progress.branch [
      | then-view-peer_progress w ↦ looked_so (g.T.Timer.timer_events c.args.timer.now) (g.T.Timer.timer_events c.action-action.new.self) (g.T.Timer.timer_events c.if-view-peer_progress.timer) c.args.now c.args.view (is_tick c.action-action.result) c.args.peer_progress.now true (lt-ltb c.args.view.front c.args.peer_progress.now.accepting w.if-view-peer_progress.true) c.action-action.ensures.timer_events
          (subst (λ (z : _). Adds (g.T.Timer.timer_events c.action-action.new.self) (g.T.Timer.timer_events z) (sends_if true c.args.now)) (sym w.timer-is) w.sent.ensures.timer_events)
      | else-view-peer_progress w ↦ looked_so (g.T.Timer.timer_events c.args.timer.now) (g.T.Timer.timer_events c.action-action.new.self) (g.T.Timer.timer_events c.if-view-peer_progress.timer) c.args.now c.args.view (is_tick c.action-action.result) c.args.peer_progress.now false (le-ltb c.args.view.front c.args.peer_progress.now.accepting w.if-view-peer_progress.false) c.action-action.ensures.timer_events
          (subst (λ (z : _). Adds (g.T.Timer.timer_events c.action-action.new.self) (g.T.Timer.timer_events z) (sends_if false c.args.now)) (sym w.timer-is) (adds_none (g.T.Timer.timer_events c.action-action.new.self) (g.T.Timer.timer_events c.action-action.new.self) (λ es h. h)))
    ]
