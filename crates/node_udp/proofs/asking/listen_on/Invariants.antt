-- what was heard so far was passed over
use Rattle.std.proofs.Common.{◌≡◌, ◌-◌, List}
use Rattle.px_transport.specs.Wires.{WireEvent, Moves}
use Rattle.px_wire.specs.Message.{group}
use Rattle.node_udp.specs.declared.answer.AskAnswer.{AskAnswer}
use Rattle.node_udp.specs.Asking.{Listens}
use Rattle.node_udp.proofs.asking.listen_on.Given as goal

abbrev pub invariant-loop-wait : goal.invariant-loop-wait
invariant-loop-wait g l = record {
  heard : Moves (g.W.Wire.traffic l.fn.wire) (g.W.Wire.traffic l.wire) (λ es now. (a : AskAnswer) (end : List WireEvent) →
      Listens (group l.m) l.node (l.waits - l._wait) now a end → Listens (group l.m) l.node l.waits es a end);
  same : g.W.Wire.identity l.wire ≡ g.W.Wire.identity l.fn.wire;
}
