-- the bits of the parts from the end on
use Rattle.std.proofs.Common.{◌≡◌, ◌-◌, length, drop}
use Rattle.px_packet.specs.Held.{bits_of}
use Rattle.px_packet.proofs.partial.bits_of.Given as goal

abbrev pub invariant-loop-i : goal.invariant-loop-i
invariant-loop-i l = l.bits ≡ bits_of (drop (length l.parts - l.i) l.parts)
