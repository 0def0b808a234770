-- What opening a store does to it.
use Rattle.std.specs.Prelude.{◌≡◌, ◌⊎◌, ⊤, ℕ, pos, true, false, List, [], ◌∷◌, Option, Some, None, codes}
use Rattle.sqlite_value.specs.Order.{Row}
use Rattle.sqlite.specs.Held.{Held, state}
use Rattle.sqlite.specs.State.{State, FailsToQuery}
use Rattle.sqlite_trees.specs.declared.store.Store as store
use Rattle.sqlite.specs.declared.error.Error.{Error}
use Rattle.sqlite.specs.declared.types.Value.TheVariants.{Int}
use Rattle.sqlite.specs.Tree.{Trees}
use Rattle.px_model.specs.Node.{Record}
use Rattle.px_model.specs.Spelling.{Bytes}
use Rattle.sqlite.specs.Schema.{Schema}
use Rattle.px_store.specs.Tables.{no_schema}
use Rattle.px_model.specs.World.{nothing_stored}
use Rattle.px_store.specs.Seen.{seen, meta_columns, meta_row, number_at}
use Rattle.px_store.specs.Formats.{schema_at, record_at, trees_at}
use Rattle.px_store.specs.Judging.{refusal, is_member_of}
use Rattle.px_store.specs.declared.calls.Identity.{Identity}
use Rattle.px_store.specs.declared.formats.Format.{Format}
use Rattle.px_store.specs.declared.formats.Format.TheVariants.{Three}
use Rattle.px_store.specs.declared.fault.AdoptFault.{AdoptFault}
use Rattle.px_store.specs.declared.fault.AdoptFault.TheVariants.{Memory, Failed, StoreVersion, BadStore, WrongNode}

-- the numbers of the refusals
abbrev pub code_of : AdoptFault → Option ℕ
code_of Memory = None
code_of Failed = Some 70
code_of StoreVersion = Some 73
code_of BadStore = Some 72
code_of WrongNode = Some 71

-- the store was judged and refused: 73, 72 or 71
abbrev pub IsVerdict : AdoptFault → Type 0
IsVerdict Memory = ⊥
IsVerdict Failed = ⊥
IsVerdict StoreVersion = ⊤
IsVerdict BadStore = ⊤
IsVerdict WrongNode = ⊤

-- the question for the row for the whole node, of id 1
abbrev pub get_meta : List ℕ
get_meta = codes "SELECT id, format, cluster, members, node, round, number FROM meta WHERE id = ?1"

-- the database doesn't answer it
abbrev pub IsUnread : {S : Type 0} → (g : store.Ghosts S) → Held S → Type 0
IsUnread {S} g given =
    (came : Held S) × ((e : Error) × FailsToQuery get_meta (Int (pos 1) ∷ []) (state g given) (state g came) e)

-- there are no tables, or those of a format
abbrev pub IsKnown : Schema → Type 0
IsKnown s = (s ≡ no_schema) ⊎ ((f : Format) × (s ≡ schema_at f))

-- a store with the tables of a format, outside a transaction
pub record Began (f : Format) (s : State) : Type 0 where
  pub schema : s.now.schema ≡ schema_at f
  pub auto : s.in_transaction ≡ false

-- nothing differs, and no transaction is open
pub record IsSame (old new : State) : Type 0 where
  pub now : new.now ≡ old.now
  pub auto : new.in_transaction ≡ false

-- ---- what a stop leaves

-- the rows of a store of format 3 with this row for the whole node, and these in the other tables
pub record AreBrought (id : Identity) (round number : ℕ) (slots floor learned : List Row) (db : Trees) : Type 0 where
  pub meta_is : seen meta_columns (db 0) 1 ≡ meta_row 3 id.cluster id.members id.node round number ∷ []
  pub slots_be : db 1 ≡ slots
  pub floor_be : db 2 ≡ floor
  pub learned_be : db 3 ≡ learned

-- such a store, whole: it shows the record, and a node of a cluster may take it again
pub record IsWhole (id : Identity) (round number : ℕ) (slots floor learned : List Row) (d : Record Bytes)
    (db : Trees) : Type 0 where
  pub rows : AreBrought id round number slots floor learned db
  pub shows : record_at Three db ≡ d
  pub again : is_member_of id.cluster id.members id.node ≡ true → refusal Three id db ≡ None

-- what is made where there were no tables
abbrev pub IsMade : Identity → Trees → Type 0
IsMade id = IsWhole id 0 0 [] [] [] nothing_stored

-- what is brought of a store of a format: its numbers and its rows, and none in the tables that it lacks
abbrev pub IsBrought : Format → Identity → Trees → Trees → Type 0
IsBrought f id was = IsWhole id (number_at 5 (seen meta_columns (was 0) 1)) (number_at 6 (seen meta_columns (was 0) 1))
    (was 1) (trees_at f was 2) (trees_at f was 3) (record_at f was)

-- what an open after a stop may find is what it could find before
abbrev pub LeavesOld : State → State → Type 0
LeavesOld old new = (db : Trees) → new.may_leave db → old.may_leave db

-- what an open after a stop may find is what it could find before, or this, whole
abbrev pub LeavesOr : (Trees → Type 0) → State → State → Type 0
LeavesOr whole old new = (db : Trees) → new.may_leave db → old.may_leave db ⊎ whole db
