-- Faults of the layers below, as a node answers them.
use Rattle.std.specs.Prelude.{◌≡◌, Option, Some, None, Result, Ok, Err}
use Rattle.px_model.specs.Node.{Answer}
use Rattle.px_model.specs.Node.Answer.{Refused}
use Rattle.px_model.specs.Spelling.{Bytes}
use Rattle.px_replica.specs.declared.fault.NodeFault.{NodeFault}
use Rattle.px_replica.specs.declared.fault.NodeFault.TheVariants as fault

-- a refusal is the model's; the other faults leave the model's result open
abbrev pub IsRefusedBy : NodeFault → Answer Bytes → Type 0
IsRefusedBy fault.Full a = a ≡ Refused 60
IsRefusedBy fault.BallotsSpent a = a ≡ Refused 61
IsRefusedBy fault.PositionsSpent a = a ≡ Refused 62
IsRefusedBy fault.Memory a = Unit {0}
IsRefusedBy fault.Store a = Unit {0}
IsRefusedBy fault.BadStore a = Unit {0}
IsRefusedBy fault.TooLong a = Unit {0}
IsRefusedBy fault.Failed a = Unit {0}

-- 70 or 72
abbrev pub IsOfStore : NodeFault → Type 0
IsOfStore fault.Store = Unit {0}
IsOfStore fault.BadStore = Unit {0}
IsOfStore fault.Memory = ⊥
IsOfStore fault.Failed = ⊥
IsOfStore fault.TooLong = ⊥
IsOfStore fault.Full = ⊥
IsOfStore fault.BallotsSpent = ⊥
IsOfStore fault.PositionsSpent = ⊥

-- the fault that a call answers, if it does
abbrev pub fault_of : {X : Type 0} → Result X NodeFault → Option NodeFault
fault_of (Ok x) = None
fault_of (Err e) = Some e

-- 70 or 72 was answered
abbrev pub IsOfTheStore : Option NodeFault → Type 0
IsOfTheStore None = ⊥
IsOfTheStore (Some e) = IsOfStore e

-- one of these records may fail
abbrev pub SomeFails : {R : Type 0} → (R → Type 0) → Type 0
SomeFails {R} may_fail = (r : R) × may_fail r

-- what a datagram can be answered with
abbrev pub IsReceiveFault : NodeFault → Type 0
IsReceiveFault fault.Memory = Unit {0}
IsReceiveFault fault.Store = Unit {0}
IsReceiveFault fault.BadStore = Unit {0}
IsReceiveFault fault.Failed = Unit {0}
IsReceiveFault fault.TooLong = ⊥
IsReceiveFault fault.Full = ⊥
IsReceiveFault fault.BallotsSpent = ⊥
IsReceiveFault fault.PositionsSpent = ⊥

-- what an opening can be refused with
abbrev pub IsOpenFault : NodeFault → Type 0
IsOpenFault fault.Memory = Unit {0}
IsOpenFault fault.Store = Unit {0}
IsOpenFault fault.BadStore = Unit {0}
IsOpenFault fault.Failed = ⊥
IsOpenFault fault.TooLong = ⊥
IsOpenFault fault.Full = ⊥
IsOpenFault fault.BallotsSpent = ⊥
IsOpenFault fault.PositionsSpent = ⊥

-- what can be answered where a row that is read is bad: 72; or 70 or out of memory, where it wasn't reached
abbrev pub IsOfBadRow : Option NodeFault → Type 0
IsOfBadRow None = ⊥
IsOfBadRow (Some e) = IsOpenFault e
