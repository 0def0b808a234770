-- turns led here from the start
use Rattle.std.proofs.Common.{◌≡◌, ◌≤◌, None, length}
use Rattle.px_transport.specs.Wires.{Moves}
use Rattle.pf_node.specs.Nodes.{applied_of}
use Rattle.node_loop.specs.Counting.{CountsAll}
use Rattle.node_loop.specs.Progress.{SawAll, counts_in, heads_in, seen_in}
use Rattle.node_loop.specs.Turns.{Served, in_loop}
use Rattle.node_loop.proofs.serving.drain.Given as goal

abbrev pub invariant-loop-handled : goal.invariant-loop-handled
invariant-loop-handled g l = record {
  served : Moves (g.W.Wire.traffic l.fn.wire) (g.W.Wire.traffic l.wire)
      (λ es es'. Served (in_loop l.fn.node es l.fn.buffers) (in_loop l.node es' l.buffers) None);
  saw : Moves (g.W.Wire.traffic l.fn.wire) (g.W.Wire.traffic l.wire) (λ es es'. SawAll l.handled
      (in_loop l.fn.node es l.fn.buffers) (in_loop l.node es' l.buffers) (seen_in l.fn.buffers) (seen_in l.buffers));
  counts : Moves (g.W.Wire.traffic l.fn.wire) (g.W.Wire.traffic l.wire)
      (λ es es'. CountsAll l.handled (in_loop l.fn.node es l.fn.buffers) (in_loop l.node es' l.buffers)
      (counts_in l.fn.buffers) (counts_in l.buffers));
  heads : length (heads_in l.buffers) ≤ l.handled;
  grows : applied_of l.fn.node ≤ applied_of l.node;
  same : g.W.Wire.identity l.wire ≡ g.W.Wire.identity l.fn.wire;
}
