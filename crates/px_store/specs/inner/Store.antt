-- What only code and proofs use beside `Store`.
use Rattle.std.specs.Prelude.{◌≡◌, ◌⊎◌, ℕ, Some, OnOk, Result, Err}
use Rattle.px_model.specs.Node.{Record}
use Rattle.px_model.specs.Step.{put}
use Rattle.px_model.specs.Spelling.{Bytes}
use Rattle.px_store.specs.Entries.{entry_of}
use Rattle.px_store.specs.inner.Seen.{slot_with}
use Rattle.px_records.specs.Records.{Place}
use Rattle.px_records.specs.declared.records.StoreFault.{StoreFault}
use Rattle.px_records.specs.declared.records.StoreFault.TheVariants.{Memory}
use Rattle.px_store.specs.Store.{Stored}

-- nothing of the record differs
pub record Keeps (old new : Stored) : Type 0 where
  pub same : new.kept ≡ old.kept
  pub rows : (x : Place) → old.is_good x → new.is_good x
  pub back : (x : Place) → new.is_good x → old.is_good x

-- where a row was good it is good
abbrev pub StaysGood : (old new : Stored) → Type 0
StaysGood old new = (x : Place) → old.is_good x → new.is_good x

-- a read: nothing differs while no call has failed, and a stop leaves what it left before
pub record OnlyReads (old new : Stored) : Type 0 where
  pub was : new.is_honest → old.is_honest
  pub keeps : new.is_honest → new.failed ≡ 0 → Keeps old new
  pub leaves : new.is_honest → (r : Record Bytes) → new.may_leave r → old.may_leave r

-- what a stop leaves is what it left before, or this record
abbrev pub LeavesOneOf : Record Bytes → Stored → Stored → Type 0
LeavesOneOf target old new = (r : Record Bytes) → new.may_leave r → old.may_leave r ⊎ (r ≡ target)

-- What a change makes: after Ok the record is this one; when out of memory nothing differs; and a stop at this
-- moment leaves what it left before, or this record.
pub record Changed (target : Record Bytes) (answer : Result (Unit {0}) StoreFault) (old new : Stored) : Type 0 where
  pub ok : OnOk answer (new.kept ≡ target)
  pub memory : answer ≡ Err Memory → Keeps old new
  pub stop : LeavesOneOf target old new

-- ---- the record, with one change

abbrev pub with_meta : Record Bytes → (round number : ℕ) → Record Bytes
with_meta d round number = record d { meta = record d.meta { round = round; number = number } }

abbrev pub with_floor : Record Bytes → (ballot : ℕ) → Record Bytes
with_floor d ballot = record d { meta = record d.meta { floor = ballot } }

abbrev pub with_slot : Record Bytes → (position promised ballot : ℕ) → Bytes → Record Bytes
with_slot d p promised ballot bytes = record d { slots = put d.slots p (slot_with promised ballot bytes) }

abbrev pub with_promise : Record Bytes → (position ballot : ℕ) → Record Bytes
with_promise d p ballot = record d {
  slots = put d.slots p (record {
    promised = ballot;
    accepted =
        (d.slots p).accepted;
  });
}

abbrev pub with_entry : Record Bytes → (position : ℕ) → Bytes → Record Bytes
with_entry d p bytes = record d { learned = put d.learned p (Some (entry_of bytes)) }
