-- what led here from the start
use Rattle.std.proofs.Common.{◌≡◌, ◌≤◌, ◌+◌, ◌*◌, None}
use Rattle.px_transport.specs.Wires.{Moves}
use Rattle.node_loop.specs.Hosting.{Hosted}
use Rattle.node_loop.specs.Times.{IsTimed}
use Rattle.node_loop.specs.Timing.{LooksTimes}
use Rattle.node_loop.specs.Turns.{Served, in_loop}
use Rattle.node_control.proofs.running.passes.Given as goal

abbrev pub invariant-loop-round : goal.invariant-loop-round
invariant-loop-round g l = record {
  hosted : Moves (g.W.Wire.traffic l.fn.wire) (g.W.Wire.traffic l.wire)
      (λ es es'. Hosted (in_loop l.fn.service.handler.node es l.fn.buffers) (in_loop l.service.handler.node es' l.buffers) None);
  turns : l.fn.control ≡ None → Moves (g.W.Wire.traffic l.fn.wire) (g.W.Wire.traffic l.wire)
      (λ es es'. Served (in_loop l.fn.service.handler.node es l.fn.buffers) (in_loop l.service.handler.node es' l.buffers) None)
      × (l.control ≡ None);
  left : l.turns ≤ l.left + 65 * l._round;
  looks : LooksTimes l._round (g.T.Timer.timer_events l.fn.timer) (g.T.Timer.timer_events l.timer);
  timed : IsTimed l.fn.start (g.S.Stopwatch.readings l.fn.clock) (g.S.Stopwatch.readings l.clock)
      (g.T.Timer.timer_events l.fn.timer) (g.T.Timer.timer_events l.timer);
  same : g.W.Wire.identity l.wire ≡ g.W.Wire.identity l.fn.wire;
}
