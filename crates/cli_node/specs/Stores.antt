-- Whether a node's store is opened or made.
use Rattle.std.specs.Prelude.{◌≡◌, ◌≢◌, ◌⊎◌, ◌||◌, ◌&&◌, ◌==◌, if◌then◌else◌, ⊤, not, ℕ, Bool, true, false}
use Rattle.std.specs.Prelude.{List, ◌++◌, Option, None, codes}
use Rattle.sqlite.specs.State.{State, HasCleanDisk}
use Rattle.sqlite.specs.Effect.{Database}
use Rattle.sqlite.specs.Held.{Held, state}
use Rattle.sqlite.specs.Tree.{Trees}
use Rattle.sqlite_trees.specs.declared.store.Store as store
use Rattle.px_store.specs.Adopting.{Began, IsBrought, IsMade, LeavesOr}
use Rattle.px_store.specs.Formats.{record_at}
use Rattle.px_store.specs.Judging.{refusal, reopen_refusal}
use Rattle.px_store.specs.Tables.{no_schema}
use Rattle.px_store.specs.View.{connection_of, IsOpened}
use Rattle.px_store.specs.declared.fault.AdoptFault.{AdoptFault}
use Rattle.px_store.specs.declared.keeper.SqlRecords.{SqlRecords}
use Rattle.px_store.specs.declared.formats.Format.{Format}
use Rattle.px_store.specs.declared.calls.Identity.{Identity}
use Rattle.px_wire.specs.declared.membership.Membership.{Membership}
use Rattle.cli_node.specs.declared.outcome.Outcome.{Outcome}
use Rattle.cli_node.specs.declared.outcome.Outcome.TheVariants.{Front, Stopped, Asked, Key, Refused, RefusedLine}
use Rattle.cli_node.specs.declared.outcome.Outcome.TheVariants.{NoAnswer, Sound, Made, Memory, Unread}
use Rattle.cli_node.specs.declared.database.Seen.{Seen}
use Rattle.cli_node.specs.declared.database.Seen.TheVariants as seen
use Rattle.cli_node.specs.declared.store.Found.{Found}
use Rattle.cli_node.specs.declared.store.Found.TheVariants as found
use Rattle.cli_node.specs.declared.store.Opening.{Opening}
use Rattle.cli_node.specs.declared.store.Opening.TheVariants.{Opens, Makes, Refuses}

-- whom the store of a member belongs to
abbrev pub identity_at : Membership → Identity
identity_at m = record { cluster = m.cluster; members = m.members; node = m.me }

-- no byte is there
abbrev pub has_no_byte : Seen → Bool
has_no_byte (seen.File size) = size == 0
has_no_byte (seen.Another size) = size == 0
has_no_byte seen.Nothing = true
has_no_byte seen.Unknown = true

-- what is found of a store, by what is seen of its file and of its log of writes
abbrev pub found_by : (file log : Seen) → Found
found_by (seen.File size) log = if (size == 0) && has_no_byte log then found.Empty else found.Store
found_by (seen.Another size) log = found.Other
found_by seen.Nothing log = found.Nothing
found_by seen.Unknown log = found.Other

-- what is found of the store at a path
abbrev pub IsFoundAt : (is_seen : (path : List ℕ) → Seen → Type 0) → (path : List ℕ) → Found → Type 0
IsFoundAt is_seen path f = (file : Seen) × (log : Seen) × is_seen path file × is_seen (path ++ codes "-wal") log
    × (f ≡ found_by file log)

-- no store is there: nothing, or a file without a byte
abbrev pub IsNone : Found → Type 0
IsNone f = (f ≡ found.Nothing) ⊎ (f ≡ found.Empty)

-- no store is at a path
abbrev pub HasNone : (is_seen : (path : List ℕ) → Seen → Type 0) → (path : List ℕ) → Type 0
HasNone is_seen path = (f : Found) × IsFoundAt is_seen path f × IsNone f

-- whether a start makes a store there
abbrev pub is_made : (is_from_file is_new : Bool) → Found → Bool
is_made file new found.Nothing = new || not file
is_made file new found.Empty = new || not file
is_made file new found.Store = false
is_made file new found.Other = false

-- a node may run over what is found: a store that it makes there, or one that is there, without --new
abbrev pub MayRun : (is_from_file is_new : Bool) → Found → Type 0
MayRun file new f = (is_made file new f ≡ true) ⊎ ((f ≡ found.Store) × (new ≡ false))

-- Why what is there is refused: a store is lost where settings come from a file and none is to be made; there is one
-- where one is to be made; or it is no file.
abbrev pub IsRefused : (is_from_file is_new : Bool) → Found → (code : ℕ) → Type 0
IsRefused file new f code =
    ((code ≡ 93) × (file ≡ true) × (new ≡ false) × IsNone f)
    ⊎ (((code ≡ 94) × (new ≡ true) × (f ≡ found.Store)) ⊎ ((code ≡ 70) × (f ≡ found.Other)))

-- What becomes of what is there.
pub record IsOpening (is_from_file is_new : Bool) (f : Found) (o : Opening) : Type 0 where
  -- a start by a file of settings never makes a store
  pub kept : is_from_file ≡ true → is_new ≡ false → o ≢ Makes
  -- a store is made where none is, whatever is asked, and opened where one is
  pub made : o ≡ Makes → IsNone f
  pub opened : o ≡ Opens → f ≡ found.Store
  -- with --new one that is there is kept as it is
  pub held : is_new ≡ true → f ≡ found.Store → o ≡ Refuses 94
  pub lost : is_from_file ≡ true → is_new ≡ false → IsNone f → o ≡ Refuses 93
  pub refused : (code : ℕ) → o ≡ Refuses code → IsRefused is_from_file is_new f code

-- what a store that was found is refused with to this owner: one that was there isn't new
abbrev pub refusal_at : Found → Format → Identity → Trees → Option AdoptFault
refusal_at found.Store f owner db = reopen_refusal f owner db
refusal_at found.Nothing f owner db = refusal f owner db
refusal_at found.Empty f owner db = refusal f owner db
refusal_at found.Other f owner db = refusal f owner db

-- The record of this owner in a database that was held, which was found so.
-- Example: the row of such a store names this cluster, this many members and this node.
pub record IsKeptIn {S : Type 0} (g : store.Ghosts S) (held : Database → (within : Bool) → Type 0) (there : Found)
    (owner : Identity) (r : SqlRecords S g) : Type 0 where
  pub given : Held S
  pub was : held (state g given).now (state g given).in_transaction
  -- what it held in its format is opened
  pub opened : HasCleanDisk (state g (connection_of r)) → (f : Format) → Began f (state g given) →
      IsOpened g r (record_at f (state g given).now.trees)
  -- and isn't refused to this owner
  pub owned : HasCleanDisk (state g (connection_of r)) → (f : Format) → Began f (state g given) →
      refusal_at there f owner (state g given).now.trees ≡ None
  -- a stop leaves what it could leave before, or where there were no tables those of this owner, or else its rows
  pub made : HasCleanDisk (state g (connection_of r)) → (state g given).now.schema ≡ no_schema →
      (state g given).in_transaction ≡ false →
      LeavesOr (IsMade owner) (state g given) (state g (connection_of r))
  pub brought : HasCleanDisk (state g (connection_of r)) → (f : Format) → Began f (state g given) →
      LeavesOr (IsBrought f owner (state g given).now.trees) (state g given) (state g (connection_of r))

-- the same at a path where a node may run over what was found
abbrev pub IsRunOver : {S : Type 0} → (g : store.Ghosts S) → (is_seen : (path : List ℕ) → Seen → Type 0) →
    (held : Database → (within : Bool) → Type 0) → (path : List ℕ) → (is_from_file is_new : Bool) → (owner : Identity) →
    SqlRecords S g → Type 0
IsRunOver g is_seen held path file new owner r =
    (f : Found) × IsFoundAt is_seen path f × MayRun file new f × IsKeptIn g held f owner r

-- the database that a record is in was closed
abbrev pub IsClosedIn : {S : Type 0} → (g : store.Ghosts S) → (closed : State → Type 0) → SqlRecords S g → Type 0
IsClosedIn g closed r = closed (state g (connection_of r))

-- A database that was held begins as one of a format, and its rows are no fault to this owner.
pub record IsSoundAt {S : Type 0} (g : store.Ghosts S) (held : Database → (within : Bool) → Type 0) (owner : Identity) :
    Type 0 where
  pub given : Held S
  pub back : Held S
  pub was : held (state g given).now (state g given).in_transaction
  pub known : (f : Format) × Began f (state g given)
  pub sound : HasCleanDisk (state g back) → (f : Format) → Began f (state g given) →
      reopen_refusal f owner (state g given).now.trees ≡ None

-- nothing keeps this owner from the store that is found: one is made, or it isn't read, or it is sound
abbrev pub IsFit : {S : Type 0} → (g : store.Ghosts S) → (is_unseen : Type 0) →
    (held : Database → (within : Bool) → Type 0) → (is_from_file is_new : Bool) → Found → (owner : Identity) → Type 0
IsFit g is_unseen held is_from_file is_new f owner =
    IsOpening is_from_file is_new f Makes ⊎ (is_unseen ⊎ IsSoundAt g held owner)

-- nothing but out of memory and refusals
abbrev pub IsRefusal : Outcome → Type 0
IsRefusal Memory = ⊤
IsRefusal (Refused code) = ⊤
IsRefusal (Front front applied) = ⊥
IsRefusal (Stopped front applied) = ⊥
IsRefusal (Asked node number) = ⊥
IsRefusal (Key key) = ⊥
IsRefusal (RefusedLine code at) = ⊥
IsRefusal NoAnswer = ⊥
IsRefusal Sound = ⊥
IsRefusal Made = ⊥
IsRefusal Unread = ⊥

-- why no store is made: its file or its database can't be, or its node would have no socket
abbrev pub IsUnmade : Outcome → Type 0
IsUnmade o = (o ≡ Memory) ⊎ ((o ≡ Refused 70) ⊎ ((o ≡ Refused 82) ⊎ (o ≡ Refused 84)))

-- What keeps a node from its store: 93 only where settings come from a file and none is to be made, 94 only where one
-- is.
pub record IsStoreless (is_from_file is_new : Bool) (outcome : Outcome) : Type 0 where
  pub missing : outcome ≡ Refused 93 → (is_from_file ≡ true) × (is_new ≡ false)
  pub there : outcome ≡ Refused 94 → is_new ≡ true
