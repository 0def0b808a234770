-- What only code and proofs use beside `Memory`.
use Rattle.std.specs.Prelude.{◌≡◌, ℕ, Some}
use Rattle.std.specs.BTreeMap.{BTreeMap}
use Rattle.px_model.specs.Bounds.{AnyCommand}
use Rattle.px_model.specs.Node as node
use Rattle.px_model.specs.Step.{put}
use Rattle.px_model.specs.Fits.{RecordFits}
use Rattle.px_model.specs.Spelling.{Bytes}
use Rattle.px_model.specs.declared.entry.Entry.{Entry}
use Rattle.px_model.specs.declared.record.Slot.{Slot}
use Rattle.px_model.specs.declared.record.Meta.{Meta}
use Rattle.px_records.specs.Memory.{slots_in, learned_in, record_of}

-- a promise leaves what was accepted
abbrev pub promised_with : ℕ → node.Slot Bytes → node.Slot Bytes
promised_with ballot s = record { promised = ballot; accepted = s.accepted }

-- an accepted proposal is promised too
abbrev pub accepted_with : ℕ → node.Entry Bytes → node.Slot Bytes
accepted_with ballot e = record { promised = ballot; accepted = Some (record { ballot = ballot; entry = e }) }

-- at this place there is this value, and the others are as they were
abbrev pub PutsSlot : (place : ℕ) → node.Slot Bytes → (old new : BTreeMap ℕ Slot) → Type 0
PutsSlot place slot old new = (p : ℕ) → slots_in new p ≡ put (slots_in old) place slot p

-- the ballot is promised there, and the rest is as it was
abbrev pub Promises : (place ballot : ℕ) → (old new : BTreeMap ℕ Slot) → Type 0
Promises place ballot old new = PutsSlot place (promised_with ballot (slots_in old place)) old new

-- this entry is learned there, and the rest is as it was
abbrev pub PutsEntry : (place : ℕ) → node.Entry Bytes → (old new : BTreeMap ℕ Entry) → Type 0
PutsEntry place e old new = (p : ℕ) → learned_in new p ≡ put (learned_in old) place (Some e) p

-- what is kept fits a record of that many members
abbrev pub AllFits : (members : ℕ) → Meta → BTreeMap ℕ Slot → BTreeMap ℕ Entry → Type 0
AllFits members meta slots learned = RecordFits AnyCommand members (record_of meta slots learned)
