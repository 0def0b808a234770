-- What only code and proofs use beside `Seen`.
use Rattle.std.specs.Prelude.{ℕ, List, Option, Some, Result}
use Rattle.px_model.specs.declared.entry.EntryView.{EntryView}
use Rattle.px_model.specs.declared.message.Message as declared
use Rattle.px_wire.specs.declared.fault.WireFault.{WireFault}
use Rattle.px_wire.specs.Message.{Lent, Message}
use Rattle.px_wire.specs.Fields.{Field, fault_of, first_fault}
use Rattle.px_wire.specs.Seen.{lent_of, message_of, Answers}

-- the value of one field of the bytes, or its fault
abbrev pub ReadsField : {X : Type 0} → List ℕ → Result X WireFault → Field → X → Type 0
ReadsField bytes result f value = Answers (λ x. x) result (fault_of f bytes) value

-- the entry that ends the bytes, after these fields from an offset on
abbrev pub ReadsEntry : List ℕ → Result EntryView WireFault → List Field → ℕ → Option Lent → Type 0
ReadsEntry bytes result fs at value = Answers (λ e. Some (lent_of e)) result (first_fault fs at bytes) value

-- the message of the fields after byte 12
abbrev pub ReadsBody :
    List ℕ → Result (declared.Message EntryView) WireFault → List Field → Option Message → Type 0
ReadsBody bytes result fs value = Answers (λ v. Some (message_of v)) result (first_fault fs 13 bytes) value
