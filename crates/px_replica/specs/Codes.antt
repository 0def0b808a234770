-- The numbers of refusals.
use Rattle.std.specs.Prelude.{ℕ, Option, Some, None}
use Rattle.px_replica.specs.declared.fault.NodeFault.{NodeFault}
use Rattle.px_replica.specs.declared.fault.NodeFault.TheVariants.{Memory, TooLong, Full, BallotsSpent, PositionsSpent}
use Rattle.px_replica.specs.declared.fault.NodeFault.TheVariants.{Store, BadStore, Failed}

-- none when out of memory
-- Example: TooLong is 41.
abbrev pub node_fault_code : NodeFault → Option ℕ
node_fault_code Memory = None
node_fault_code TooLong = Some 41
node_fault_code Full = Some 60
node_fault_code BallotsSpent = Some 61
node_fault_code PositionsSpent = Some 62
node_fault_code Store = Some 70
node_fault_code BadStore = Some 72
node_fault_code Failed = Some 80
