-- A keeper, as its record.
use Rattle.sqlite_trees.specs.declared.store.Store.{Ghosts}
use Rattle.std.specs.Prelude.{◌≡◌, Result, Ok, Err}
use Rattle.sqlite.specs.Held.{Held, state}
use Rattle.px_model.specs.Node.{Record}
use Rattle.px_model.specs.Spelling.{Bytes}
use Rattle.px_store.specs.Store.{Stored}
use Rattle.px_store.specs.Ready.{stored_of}
use Rattle.px_store.specs.declared.fault.AdoptFault.{AdoptFault}
use Rattle.px_store.specs.declared.keeper.SqlRecords.{SqlRecords}

-- what the connection shows
abbrev pub view_of : {S : Type 0} → (g : Ghosts S) → SqlRecords S g → Stored
view_of g r = stored_of r.identity.members r.failures (state g r.conn)

-- the connection that it keeps
abbrev pub connection_of : {S : Type 0} {g : Ghosts S} → SqlRecords S g → Held S
connection_of r = r.conn

-- the connection that taking a store leaves, in the keeper or beside a refusal
abbrev pub connection_after : {S : Type 0} {g : Ghosts S} → Result (SqlRecords S g) (AdoptFault × Held S) → Held S
connection_after (Ok r) = r.conn
connection_after (Err e) = e.1

-- it keeps what was written, and this is the record
abbrev pub IsOpened : {S : Type 0} → (g : Ghosts S) → SqlRecords S g → Record Bytes → Type 0
IsOpened g r d = (view_of g r).is_honest × ((view_of g r).kept ≡ d)
