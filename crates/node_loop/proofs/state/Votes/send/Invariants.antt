-- some of what is kept was handed over again
use Rattle.std.proofs.Common.{◌≡◌}
use Rattle.node_loop.specs.Again.{HandsFor}
use Rattle.node_loop.specs.Keeping.{votes_in}
use Rattle.node_loop.proofs.state.Votes.send.Given as goal

abbrev pub invariant-loop-i : goal.invariant-loop-i
invariant-loop-i g l = record {
  again : HandsFor l.fn.to (votes_in l.self) (g.W.Wire.traffic l.fn.wire) (g.W.Wire.traffic l.wire);
  same : g.W.Wire.identity l.wire ≡ g.W.Wire.identity l.fn.wire;
}
