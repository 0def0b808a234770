-- the first of those so far, and of those that are left
use Rattle.std.proofs.Common.{◌≡◌, drop}
use Rattle.px_packet.specs.Reassembling.{earlier, first_due}
use Rattle.px_packet.proofs.reassembly.Reassembly.due.Given as goal

abbrev pub invariant-loop-i : goal.invariant-loop-i
invariant-loop-i l = earlier l.first (first_due (drop l.i l.self-inside.partials.items)) ≡ first_due l.self-inside.partials.items
