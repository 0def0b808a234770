-- the slot that was read is the bad row
use Rattle.std.proofs.Common.{rules, inl}
use Rattle.px_replica.proofs.look.look_beside.Goals as goal

pub returns-in_err-slot-in-Slot-clause-bad : goal.returns-in_err-slot-in-Slot-clause-bad
returns-in_err-slot-in-Slot-clause-bad g c honest e =
    rw c.in-Slot.is (c.slot_at.ensures.bad honest (search (rules, e, c.in_err-slot-in-Slot, c.from_residual.ensures)))

pub returns-in_err-slot-in-SlotAndTop-clause-bad : goal.returns-in_err-slot-in-SlotAndTop-clause-bad
returns-in_err-slot-in-SlotAndTop-clause-bad g c honest e =
    rw c.in-SlotAndTop.is (inl (c.slot_at-in-SlotAndTop.ensures.bad honest
    (search (rules, e, c.in_err-slot-in-SlotAndTop, c.from_residual-in_err-slot-in-SlotAndTop.ensures))))
