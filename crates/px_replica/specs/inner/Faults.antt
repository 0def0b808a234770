-- What only code and proofs use beside `Faults`.
use Rattle.std.specs.Prelude.{Result, Ok, Err}
use Rattle.px_records.specs.declared.records.StoreFault.{StoreFault}
use Rattle.px_records.specs.declared.records.StoreFault.TheVariants as store
use Rattle.px_core.specs.declared.plan.CoreFault.{CoreFault}
use Rattle.px_core.specs.declared.plan.CoreFault.TheVariants as core
use Rattle.px_replica.specs.declared.fault.NodeFault.{NodeFault}
use Rattle.px_replica.specs.declared.fault.NodeFault.TheVariants as fault
use Rattle.px_replica.specs.Faults.{IsOfStore}

abbrev pub fault_of_store : StoreFault → NodeFault
fault_of_store store.Memory = fault.Memory
fault_of_store store.Failed = fault.Store
fault_of_store store.BadStore = fault.BadStore

abbrev pub fault_of_core : CoreFault → NodeFault
fault_of_core core.Memory = fault.Memory
fault_of_core core.Full = fault.Full
fault_of_core core.BallotsSpent = fault.BallotsSpent
fault_of_core core.PositionsSpent = fault.PositionsSpent

-- a fault that a step can have, where 41 and 80 are asked before it
abbrev pub IsFromBelow : NodeFault → Type 0
IsFromBelow fault.Failed = ⊥
IsFromBelow fault.TooLong = ⊥
IsFromBelow fault.Full = Unit {0}
IsFromBelow fault.BallotsSpent = Unit {0}
IsFromBelow fault.PositionsSpent = Unit {0}
IsFromBelow fault.Memory = Unit {0}
IsFromBelow fault.Store = Unit {0}
IsFromBelow fault.BadStore = Unit {0}

abbrev pub IsStoreFault : {X : Type 0} → Result X NodeFault → Type 0
IsStoreFault (Ok x) = ⊥
IsStoreFault (Err e) = IsOfStore e
