-- What the keeper of a record shows of it, and what the calls do to that. Sections are those of "Paxos Made Simple".
use Rattle.std.specs.Prelude.{◌≡◌, ◌⊎◌, ◌↔◌, ◌≤◌, ℕ, zero, suc, Option, None, Some, IsSome, Result, Err}
use Rattle.std.specs.Prelude.{option_map}
use Rattle.px_records.specs.declared.records.StoreFault.{StoreFault}
use Rattle.px_records.specs.declared.records.StoreFault.TheVariants.{Failed, BadStore}
use Rattle.px_model.specs.declared.entry.Entry.{Entry}
use Rattle.px_model.specs.Entries.{entry_of}
use Rattle.px_model.specs.Node as node
use Rattle.px_model.specs.Node.{Record, Change, Log}
use Rattle.px_model.specs.Node.Change.{NewRound, NewNumber, NewFloor, NewPromise, NewAccepted, NewLearned}
use Rattle.px_model.specs.Step.{commit}
use Rattle.px_model.specs.Spelling.{Bytes}

-- what a call reads: the slot of a position, the entry learned there, the last row with an accepted proposal, the last
-- row with a learned entry
pub data Place : Type 0 where
  SlotAt : (position : ℕ) → Place
  EntryAt : (position : ℕ) → Place
  LastSlot : Place
  LastEntry : Place

-- the row at the position that this is one more than, if there is one, is good
abbrev pub NamesGood : (Place → Type 0) → (ℕ → Place) → (end : ℕ) → Type 0
NamesGood good at end = (p : ℕ) → end ≡ suc p → good (at p)

-- the learned entry of an answer
abbrev pub learned_of : Option Entry → Option (node.Entry Bytes)
learned_of = option_map entry_of

-- from here on nothing is learned, and something is at the position before
abbrev pub IsEnd : Log Bytes → ℕ → Type 0
IsEnd log zero = (p : ℕ) → log p ≡ None
IsEnd log (suc last) = IsSome (log last) × ((p : ℕ) → suc last ≤ p → log p ≡ None)

-- the store refuses: it has failed, or what is read is a bad row
abbrev pub IsStoresFault : {X : Type 0} → Result X StoreFault → Type 0
IsStoresFault r = (r ≡ Err Failed) ⊎ (r ≡ Err BadStore)

-- a promise isn't below what was promised there (2.2)
abbrev pub Rises : Change Bytes → Record Bytes → Type 0
Rises (NewRound r) d = Unit {0}
Rises (NewNumber k) d = Unit {0}
Rises (NewFloor b) d = Unit {0}
Rises (NewPromise p b) d = (d.slots p).promised ≤ b
Rises (NewAccepted p b e) d = Unit {0}
Rises (NewLearned p e) d = Unit {0}

-- A call that reads: while no call has failed the record stays, a row is good afterwards just where it was good before,
-- and a stop leaves nothing that it didn't leave before.
pub record IsRead {R : Type 0} (honest : R → Type 0) (stored : R → Record Bytes)
    (may_leave : R → Record Bytes → Type 0) (failed : R → ℕ) (good : R → Place →
    Type 0) (old new : R) : Type 0 where
  pub was : honest new → honest old
  pub stays : honest new → failed new ≡ 0 → stored new ≡ stored old
  pub rows : honest new → failed new ≡ 0 → (x : Place) → good old x ↔ good new x
  pub leaves : honest new → (d : Record Bytes) → may_leave new d → may_leave old d

-- What a stop may leave after a commit: what it could leave before, or the record with the change.
abbrev pub LeavesOne : {R : Type 0} → (stored : R → Record Bytes) → (may_leave : R → Record Bytes →
    Type 0) →
    (old new : R) → Change Bytes → Type 0
LeavesOne stored may_leave old new change =
    (d : Record Bytes) → may_leave new d → may_leave old d ⊎ (d ≡ commit (Some change) (stored old))
