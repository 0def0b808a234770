-- What is shown of a store.
use Rattle.std.specs.Prelude.{◌≡◌, ◌≢◌, ◌⊎◌, ℕ, Bool, false, List, Option, Some, None}
use Rattle.std.specs.Prelude.{Result, Ok, Err}
use Rattle.sqlite.specs.Effect.{Database}
use Rattle.sqlite.specs.Held.{Held, state}
use Rattle.sqlite.specs.State.{State, HasCleanDisk}
use Rattle.sqlite_trees.specs.declared.store.Store as store
use Rattle.px_model.specs.Node.{Record}
use Rattle.px_model.specs.Spelling.{Bytes}
use Rattle.px_records.specs.declared.records.Records.{Ghosts}
use Rattle.px_wire.specs.declared.membership.Membership.{Membership}
use Rattle.px_replica.specs.Codes.{node_fault_code}
use Rattle.px_replica.specs.declared.fault.NodeFault.{NodeFault}
use Rattle.px_store.specs.Adopting.{Began, IsUnread, IsVerdict, code_of}
use Rattle.px_store.specs.Judging.{owner_in, reopen_refusal}
use Rattle.px_store.specs.declared.calls.Identity.{Identity}
use Rattle.px_store.specs.declared.formats.Format.TheVariants.{Three}
use Rattle.px_store.specs.Ready.{MayLeave}
use Rattle.px_store.specs.Seen.{record_in}
use Rattle.px_store.specs.Tables.{schema_3}
use Rattle.px_store.specs.View.{connection_of}
use Rattle.px_store.specs.declared.fault.AdoptFault.{AdoptFault}
use Rattle.px_store.specs.declared.fault.AdoptFault.TheVariants.{Failed, StoreVersion, WrongNode}
use Rattle.px_store.specs.declared.keeper.SqlRecords.{SqlRecords}
use Rattle.cli_show.specs.Showing.{ShowsLog, IsRefused}
use Rattle.cli_show.specs.declared.shown.Shown.{Shown}
use Rattle.cli_show.specs.declared.shown.Wanted.{Wanted}
use Rattle.cli_show.specs.declared.store.Closed.{Closed}
use Rattle.cli_show.specs.declared.store.Closed.TheVariants as closed

-- The record that is given back is that of the rows that were there, and this is shown of its log.
pub record ShowsStore {R : Type 0} (G : Ghosts R) (given : State) (back : R) (w : Wanted) (s : Shown) : Type 0 where
  pub same : G.stored back ≡ record_in given.now.trees
  pub shows : ShowsLog (record_in given.now.trees).learned w s

-- the owner of a member's store
abbrev pub identity_of : Membership → Identity
identity_of m = record { cluster = m.cluster; members = m.members; node = m.me }

-- The store has an owner: it has format 3, outside a transaction, and its row is one that a node of the owner writes.
-- Example: one of format 2 hasn't, and isn't shown.
pub record IsOwned (s : State) : Type 0 where
  pub began : Began Three s
  pub owner : Identity
  pub names : owner_in Three s.now.trees ≡ Ok owner

-- ---- refusals

-- what the number of a refusal gives; without one it was out of memory
abbrev pub closed_by : (code : Option ℕ) → Closed
closed_by None = closed.Memory
closed_by (Some code) = closed.Refused code

-- a store that is refused, to its owner or as nobody's
-- Example: 72 of a bad row.
abbrev pub closed_of : AdoptFault → Closed
closed_of fault = closed_by (code_of fault)

-- a record that doesn't open
-- Example: 70 of a store that has failed, 72 of a bad row.
abbrev pub closed_for : NodeFault → Closed
closed_for fault = closed_by (node_fault_code fault)

-- ---- which store is refused

-- The owner of a store isn't known: it hasn't the tables of format 3 alone (73), or its row for the whole node is refused
-- (73, 72) or isn't read (70).
pub record IsUnowned {S : Type 0} (g : store.Ghosts S) (given : Held S) (c : Closed) : Type 0 where
  pub fault : AdoptFault
  pub numbered : c ≡ closed_of fault
  pub other : ((state g given).now.schema ≡ schema_3 → ⊥) → fault ≡ StoreVersion
  pub judged : Began Three (state g given) → IsVerdict fault → owner_in Three (state g given).now.trees ≡ Err fault
  pub unread : Began Three (state g given) → fault ≡ Failed → IsUnread g given

-- A store of format 3 is refused to this owner: as its rows are, with 72 for a bad one.
pub record IsRefusedTo (owner : Identity) (s : State) (c : Closed) : Type 0 where
  pub fault : AdoptFault
  pub numbered : c ≡ closed_of fault
  pub judged : IsVerdict fault → reopen_refusal Three owner s.now.trees ≡ Some fault

-- A node of that many members doesn't open the record of these rows: with 72 for a bad entry.
pub record IsUnopened {R : Type 0} (G : Ghosts R) (members : ℕ) (s : State) (c : Closed) : Type 0 where
  pub fault : NodeFault
  pub numbered : c ≡ closed_for fault
  pub given : R
  pub back : R
  pub refused : IsRefused G members given fault back
  pub honest : G.is_honest back
  pub was : G.is_honest given
  pub rows : G.stored given ≡ record_in s.now.trees

-- Nothing is shown of a store: its owner isn't known, or its rows are refused to the owner, and not as another node's,
-- or the record doesn't open.
abbrev pub IsClosed : {R S : Type 0} → (G : Ghosts R) → (g : store.Ghosts S) → Held S → Closed → Type 0
IsClosed G g given c = IsUnowned g given c ⊎ ((o : IsOwned (state g given)) ×
    (((r : IsRefusedTo o.owner (state g given) c) × (r.fault ≢ WrongNode))
    ⊎ IsUnopened G o.owner.members (state g given) c))

-- ---- what is left of a store

-- what an open after a stop may find is what it could find before, or the record of the rows
abbrev pub LeavesRecord : (old new : State) → Type 0
LeavesRecord old new =
    (left : Record Bytes) → MayLeave new left → MayLeave old left ⊎ (left ≡ record_in old.now.trees)

-- A database that a file holds is closed, and its record is left as it was.
pub record LeavesFile {S : Type 0} (g : store.Ghosts S) (holds : Database → (within : Bool) → Type 0)
    (is_closed : State → Type 0) (given back : Held S) : Type 0 where
  pub held : holds (state g given).now (state g given).in_transaction
  pub left : HasCleanDisk (state g back) → LeavesRecord (state g given) (state g back)
  pub shut : is_closed (state g back)

-- This is shown of the record in a file.
pub record ShowsFile {S : Type 0} (g : store.Ghosts S) (G : Ghosts (SqlRecords S g))
    (holds : Database → (within : Bool) → Type 0) (is_closed : State → Type 0) (w : Wanted) (s : Shown) : Type 0 where
  pub given : Held S
  pub back : SqlRecords S g
  pub owned : G.is_honest back → IsOwned (state g given)
  pub shows : G.is_honest back → ShowsStore G (state g given) back w s
  pub leaves : LeavesFile g holds is_closed given (connection_of back)

-- The store in a file is refused.
pub record RefusesFile {S : Type 0} (g : store.Ghosts S) (G : Ghosts (SqlRecords S g))
    (holds : Database → (within : Bool) → Type 0) (is_closed : State → Type 0) (c : Closed) : Type 0 where
  pub given : Held S
  pub back : Held S
  pub why : HasCleanDisk (state g back) → IsClosed G g given c
  pub leaves : LeavesFile g holds is_closed given back

-- This is shown of the store at a path where databases are opened and closed, or it is refused.
abbrev pub AnswersIn : {S : Type 0} → (g : store.Ghosts S) → (G : Ghosts (SqlRecords S g)) →
    (holds : (path : List ℕ) → Database → (within : Bool) → Type 0) → (refuses : (path : List ℕ) → Closed → Type 0) →
    (is_closed : State → Type 0) → (path : List ℕ) → Wanted → Result Shown Closed → Type 0
AnswersIn g G holds refuses is_closed path w (Ok s) = ShowsFile g G (holds path) is_closed w s
AnswersIn g G holds refuses is_closed path w (Err c) = refuses path c ⊎ RefusesFile g G (holds path) is_closed c
