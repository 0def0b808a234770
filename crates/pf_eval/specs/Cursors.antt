-- The tokens that a cursor has left, and what a reader of tokens returns.
use Rattle.std.specs.Prelude.{◌≡◌, Option, Some, None, Result, Ok, Err}
use Rattle.pf_eval.specs.declared.fault.PacketFault.{PacketFault}
use Rattle.pf_eval.specs.declared.fault.PacketFault.TheVariants.{Memory, BadPacket}

-- the value that is there, or none; unless out of memory
abbrev pub Answers : {X : Type 0} → Result X PacketFault → Option X → Type 0
Answers (Ok x) o = o ≡ Some x
Answers (Err Memory) o = Unit {0}
Answers (Err BadPacket) o = o ≡ None
