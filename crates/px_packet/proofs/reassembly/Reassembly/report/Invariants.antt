-- none so far is due
use Rattle.std.proofs.Common.{◌≡◌, ◌++◌, drop, take}
use Rattle.px_packet.specs.Reassembling.{due_held, due_after}
use Rattle.px_packet.proofs.reassembly.Reassembly.report.Given as goal

abbrev pub invariant-loop-i : goal.invariant-loop-i
invariant-loop-i l = record {
  same : l.self-inside.partials.items ≡ l.fn.self;
  held : due_held l.now (drop l.i l.fn.self) ≡ due_held l.now l.fn.self;
  after : take l.i l.fn.self ++ due_after l.now (drop l.i l.fn.self) ≡ due_after l.now l.fn.self;
}
