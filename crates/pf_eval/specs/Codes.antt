-- The numbers of refusals.
use Rattle.std.specs.Prelude.{ℕ, Option, Some, None}
use Rattle.pf_eval.specs.declared.fault.PacketFault.{PacketFault}
use Rattle.pf_eval.specs.declared.fault.PacketFault.TheVariants.{Memory, BadPacket}

-- none when out of memory
abbrev pub packet_fault_code : PacketFault → Option ℕ
packet_fault_code Memory = None
packet_fault_code BadPacket = Some 30
