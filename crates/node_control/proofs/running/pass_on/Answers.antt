-- all rounds, and the last ones
use Rattle.std.proofs.Common.{rules, ◌≡◌, Option, subst}
use Rattle.px_replica.specs.declared.fault.NodeFault.{NodeFault}
use Rattle.px_replica.specs.Faults.{fault_of}
use Rattle.px_transport.specs.Wires.{Moves}
use Rattle.node_loop.specs.Turns.{Served, in_loop}
use Rattle.node_loop.proofs.Clocks.{timed_both, timed_run}
use Rattle.node_control.proofs.Rounds.{ending_stops, finished, hosted_over, made_all, over_then, served_over}
use Rattle.node_control.proofs.running.pass_on.Goals as goal

pub returns-clause-hosted : goal.returns-clause-hosted
returns-clause-hosted g c =
    hosted_over (g.W.Wire.traffic c.args.wire.now) (g.W.Wire.traffic c.passes.new.wire) (g.W.Wire.traffic c.finish.new.wire)
    (λ es. in_loop c.args.service.now.handler.node es c.args.buffers.now) (λ es. in_loop c.passes.new.service.handler.node es c.passes.new.buffers)
    (λ es. in_loop c.finish.new.node es c.finish.new.buffers) _ c.in_ok-is_stopped.ensures.hosted
    (served_over (g.W.Wire.traffic c.passes.new.wire) (g.W.Wire.traffic c.finish.new.wire)
    (λ es. in_loop c.passes.new.service.handler.node es c.passes.new.buffers) (λ es. in_loop c.finish.new.node es c.finish.new.buffers) _
    c.in_ok-finish.ensures.served)

pub returns-in_err-finish-clause-hosted : goal.returns-in_err-finish-clause-hosted
returns-in_err-finish-clause-hosted g c =
    let is : fault_of c.finish.result ≡ fault_of c.from_residual-in_err-finish.result = search rules in
    let ended : Moves (g.W.Wire.traffic c.passes.new.wire) (g.W.Wire.traffic c.finish.new.wire)
    (λ es es'. Served (in_loop c.passes.new.service.handler.node es c.passes.new.buffers)
    (in_loop c.finish.new.node es' c.finish.new.buffers) (fault_of c.from_residual-in_err-finish.result)) =
    subst (λ (a : Option NodeFault). Moves (g.W.Wire.traffic c.passes.new.wire) (g.W.Wire.traffic c.finish.new.wire)
    (λ es es'. Served (in_loop c.passes.new.service.handler.node es c.passes.new.buffers)
    (in_loop c.finish.new.node es' c.finish.new.buffers) a)) is c.finish.ensures.served in
    hosted_over (g.W.Wire.traffic c.args.wire.now) (g.W.Wire.traffic c.passes.new.wire) (g.W.Wire.traffic c.finish.new.wire)
    (λ es. in_loop c.args.service.now.handler.node es c.args.buffers.now) (λ es. in_loop c.passes.new.service.handler.node es c.passes.new.buffers)
    (λ es. in_loop c.finish.new.node es c.finish.new.buffers) _ c.in_ok-is_stopped.ensures.hosted
    (served_over (g.W.Wire.traffic c.passes.new.wire) (g.W.Wire.traffic c.finish.new.wire)
    (λ es. in_loop c.passes.new.service.handler.node es c.passes.new.buffers) (λ es. in_loop c.finish.new.node es c.finish.new.buffers) _
    ended)

pub returns-clause-turns : goal.returns-clause-turns
returns-clause-turns g c none =
    over_then (g.W.Wire.traffic c.args.wire.now) (g.W.Wire.traffic c.passes.new.wire) (g.W.Wire.traffic c.finish.new.wire)
    (λ es. in_loop c.args.service.now.handler.node es c.args.buffers.now) (λ es. in_loop c.passes.new.service.handler.node es c.passes.new.buffers)
    (λ es. in_loop c.finish.new.node es c.finish.new.buffers) _ (c.in_ok-is_stopped.ensures.turns none).0 c.in_ok-finish.ensures.served

pub returns-in_err-finish-clause-turns : goal.returns-in_err-finish-clause-turns
returns-in_err-finish-clause-turns g c none =
    let is : fault_of c.finish.result ≡ fault_of c.from_residual-in_err-finish.result = search rules in
    let ended : Moves (g.W.Wire.traffic c.passes.new.wire) (g.W.Wire.traffic c.finish.new.wire)
    (λ es es'. Served (in_loop c.passes.new.service.handler.node es c.passes.new.buffers)
    (in_loop c.finish.new.node es' c.finish.new.buffers) (fault_of c.from_residual-in_err-finish.result)) =
    subst (λ (a : Option NodeFault). Moves (g.W.Wire.traffic c.passes.new.wire) (g.W.Wire.traffic c.finish.new.wire)
    (λ es es'. Served (in_loop c.passes.new.service.handler.node es c.passes.new.buffers)
    (in_loop c.finish.new.node es' c.finish.new.buffers) a)) is c.finish.ensures.served in
    over_then (g.W.Wire.traffic c.args.wire.now) (g.W.Wire.traffic c.passes.new.wire) (g.W.Wire.traffic c.finish.new.wire)
    (λ es. in_loop c.args.service.now.handler.node es c.args.buffers.now) (λ es. in_loop c.passes.new.service.handler.node es c.passes.new.buffers)
    (λ es. in_loop c.finish.new.node es c.finish.new.buffers) _ (c.in_ok-is_stopped.ensures.turns none).0 ended

pub returns-in_err-is_stopped-clause-turns : goal.returns-in_err-is_stopped-clause-turns
returns-in_err-is_stopped-clause-turns g c none =
    let is : fault_of c.passes.result ≡ fault_of c.from_residual.result = search rules in
    subst (λ (a : Option NodeFault). Moves (g.W.Wire.traffic c.args.wire.now) (g.W.Wire.traffic c.passes.new.wire)
    (λ es es'. Served (in_loop c.args.service.now.handler.node es c.args.buffers.now)
    (in_loop c.passes.new.service.handler.node es' c.passes.new.buffers) a)) is (c.passes.ensures.turns none).0

pub returns-clause-made : goal.returns-clause-made
returns-clause-made g c = λ none. made_all c.in_ok-is_stopped.is_stopped c.args.turns _ (g.T.Timer.timer_events c.args.timer.now)
    (g.T.Timer.timer_events c.passes.new.timer) (g.T.Timer.timer_events c.finish.new.timer) c.in_ok-is_stopped.ensures.made c.in_ok-finish.ensures.worked none

pub returns-clause-finished : goal.returns-clause-finished
returns-clause-finished g c = finished c.in_ok-is_stopped.is_stopped c.args.turns _ (g.T.Timer.timer_events c.args.timer.now)
    (g.T.Timer.timer_events c.passes.new.timer) (g.T.Timer.timer_events c.finish.new.timer) c.in_ok-is_stopped.ensures.made c.in_ok-finish.ensures.worked

pub returns-clause-stopped : goal.returns-clause-stopped
returns-clause-stopped g c = λ stopped. ending_stops _ _ (c.in_ok-is_stopped.ensures.stopped stopped)

pub returns-clause-timed : goal.returns-clause-timed
returns-clause-timed g c =
    timed_run c.read-start.result (g.S.Stopwatch.readings c.args.clock.now) (g.S.Stopwatch.readings c.read-start.new.self)
    (g.S.Stopwatch.readings c.finish.new.clock) (g.T.Timer.timer_events c.args.timer.now) (g.T.Timer.timer_events c.finish.new.timer) c.read-start.ensures
    (timed_both c.read-start.result (g.S.Stopwatch.readings c.read-start.new.self) (g.S.Stopwatch.readings c.passes.new.clock)
    (g.S.Stopwatch.readings c.finish.new.clock) (g.T.Timer.timer_events c.args.timer.now) (g.T.Timer.timer_events c.passes.new.timer)
    (g.T.Timer.timer_events c.finish.new.timer) c.in_ok-is_stopped.ensures.timed c.in_ok-finish.ensures.timed)
