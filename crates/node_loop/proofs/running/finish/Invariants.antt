-- turns led here from the start
use Rattle.std.proofs.Common.{◌≡◌, ◌≤◌, ◌+◌, ◌*◌, List, ◌∷◌, None}
use Rattle.px_transport.specs.Wires.{Adds, Moves}
use Rattle.pf_node.specs.Nodes.{applied_of}
use Rattle.node_loop.specs.Timing.{TimerEvent, looks_in}
use Rattle.node_loop.specs.Times.{IsTimed}
use Rattle.node_loop.specs.Turns.{Served, in_loop}
use Rattle.node_loop.proofs.running.finish.Given as goal

abbrev pub invariant-loop-round : goal.invariant-loop-round
invariant-loop-round g l = record {
  served : Moves (g.W.Wire.traffic l.fn.wire) (g.W.Wire.traffic l.wire)
      (λ es es'. Served (in_loop l.fn.node es l.fn.buffers) (in_loop l.node es' l.buffers) None);
  grows : applied_of l.fn.node ≤ applied_of l.node;
  looks : (more : List TimerEvent) × (looks_in more ≡ l._round) ×
      Adds (g.T.Timer.timer_events l.fn.timer) (g.T.Timer.timer_events l.timer) (TimerEvent.Ends ∷ more);
  timed : IsTimed l.fn.start (g.S.Stopwatch.readings l.fn.clock) (g.S.Stopwatch.readings l.clock)
      (g.T.Timer.timer_events l.fn.timer) (g.T.Timer.timer_events l.timer);
  left : 3000 ≤ l.left + 100 * l._round;
  same : g.W.Wire.identity l.wire ≡ g.W.Wire.identity l.fn.wire;
}
