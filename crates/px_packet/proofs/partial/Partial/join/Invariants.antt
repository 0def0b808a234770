-- what is left of the parts comes behind what was joined
use Rattle.std.proofs.Common.{◌≡◌, ◌++◌, drop}
use Rattle.px_packet.specs.Reassembling.{joined}
use Rattle.px_packet.proofs.partial.Partial.join.Given as goal

abbrev pub invariant-loop-part : goal.invariant-loop-part
invariant-loop-part l = l.whole.items ++ joined (drop l.part-index l.self.parts) ≡ joined l.self.parts
