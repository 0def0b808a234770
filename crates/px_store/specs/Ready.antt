-- A connection as the keeper of a record.
use Rattle.std.specs.Prelude.{◌≡◌, ℕ, List, true}
use Rattle.sqlite_value.specs.Order.{Row}
use Rattle.sqlite.specs.Tree.{Trees}
use Rattle.sqlite.specs.State.{State, HasCleanDisk}
use Rattle.px_model.specs.Node.{Record}
use Rattle.px_model.specs.Spelling.{Bytes}
use Rattle.px_records.specs.Records.{Place}
use Rattle.px_records.specs.Records.Place.{SlotAt, EntryAt, LastSlot, LastEntry}
use Rattle.px_store.specs.Seen.{seen, slot_columns, learned_columns}
use Rattle.px_store.specs.Seen.{record_in, are_slot_rows, are_learned_rows, has_ballot, any_row, IsLastGood}
use Rattle.px_store.specs.Store.{Stored}

-- the rows of a position are those that commits write
abbrev pub IsSlotGood : (members : ℕ) → List Row → (position : ℕ) → Type 0
IsSlotGood members rows p = are_slot_rows members p (seen slot_columns rows p) ≡ true

-- the same of what is learned at a position
abbrev pub IsEntryGood : (members : ℕ) → List Row → (position : ℕ) → Type 0
IsEntryGood members rows p = are_learned_rows members p (seen learned_columns rows p) ≡ true

-- the rows read there are those that commits write
abbrev pub is_good : (members : ℕ) → Trees → Place → Type 0
is_good members db (SlotAt p) = IsSlotGood members (db 1) p
is_good members db (EntryAt p) = IsEntryGood members (db 3) p
is_good members db LastSlot = IsLastGood has_ballot (IsSlotGood members (db 1)) (db 1)
is_good members db LastEntry = IsLastGood any_row (IsEntryGood members (db 3)) (db 3)

-- a record that the next open may find
abbrev pub MayLeave : State → Record Bytes → Type 0
MayLeave s found = (db : Trees) × s.may_leave db × (found ≡ record_in db)

-- what a connection shows of a record, where that many calls have failed: clauses on values hold where the disk
-- returned what was written
abbrev pub stored_of : (members failures : ℕ) → State → Stored
stored_of members failures s = record {
  is_honest = HasCleanDisk s;
  kept = record_in s.committed.trees;
  is_good = is_good members s.committed.trees;
  may_leave = MayLeave s;
  failed = failures;
}
