-- those so far were handed over, and some of them are kept
use Rattle.std.proofs.Common.{◌≡◌, ◌++◌, take, drop}
use Rattle.node_loop.specs.Again.{AreAmong}
use Rattle.node_loop.specs.Counts.{all_out, but_unsent}
use Rattle.node_loop.specs.Resends.{kept_of, requests_of}
use Rattle.px_transport.specs.Wires.{Adds, hands}
use Rattle.node_loop.specs.Turns.{handed_over}
use Rattle.node_loop.proofs.turning.send_all.Given as goal

abbrev pub invariant-loop-datagram : goal.invariant-loop-datagram
invariant-loop-datagram g l = record {
  handed : Adds (g.W.Wire.traffic l.fn.wire) (g.W.Wire.traffic l.wire) (hands (handed_over (take l.datagram-index l.out)));
  kept : AreAmong (kept_of l.resender) (kept_of l.fn.resender ++ handed_over (take l.datagram-index l.out));
  requests : requests_of l.resender ≡ requests_of l.fn.resender;
  counts : all_out (drop l.datagram-index l.out) (but_unsent l.counts) ≡ all_out l.out (but_unsent l.fn.counts);
  same : g.W.Wire.identity l.wire ≡ g.W.Wire.identity l.fn.wire;
}
