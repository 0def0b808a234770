-- A row that is put, and what putting it makes.
use Rattle.std.specs.Prelude.{◌≡◌, ◌≢◌, ◌⊎◌, ◌<◌, ◌^◌, ⊤, ℕ, true, List, None, OnOk, Result, Err}
use Rattle.sqlite_value.specs.Order.{Row}
use Rattle.sqlite.specs.Tree.{Trees}
use Rattle.sqlite.specs.State.{State}
use Rattle.px_model.specs.Node.{Record}
use Rattle.px_model.specs.Spelling.{Bytes}
use Rattle.px_model.specs.Step.{positions}
use Rattle.px_model.specs.declared.record.Meta as kept
use Rattle.px_records.specs.Records.Place.{SlotAt, EntryAt}
use Rattle.px_store.specs.inner.Tables.{put_meta, put_slot, put_floor, put_learned}
use Rattle.px_store.specs.inner.Tables.{meta_params, slot_params, floor_params, learned_params}
use Rattle.px_store.specs.Seen.{meta_columns, slot_columns, floor_columns, learned_columns}
use Rattle.px_store.specs.Seen.{meta_row, is_slot}
use Rattle.px_store.specs.Entries.{is_entry}
use Rattle.px_store.specs.inner.Seen.{slot_row, floor_row, learned_row}
use Rattle.px_store.specs.inner.Effect.{Puts, IsSettled, IsStill}
use Rattle.px_store.specs.Store.{Stored}
use Rattle.px_store.specs.inner.Store.{with_meta, with_slot, with_floor, with_entry}
use Rattle.px_store.specs.declared.calls.Identity.{Identity}
use Rattle.px_store.specs.declared.calls.NewRow.{NewRow}
use Rattle.px_store.specs.declared.calls.NewRow.TheVariants.{Meta, Slot, Floor, Learned}
use Rattle.px_store.specs.declared.calls.Trouble.{Trouble}
use Rattle.px_store.specs.declared.calls.Trouble.TheVariants.{Memory}

-- the statement that puts it
abbrev pub text_of : NewRow → List ℕ
text_of (Meta round number) = put_meta
text_of (Slot p promised ballot) = put_slot
text_of (Floor ballot) = put_floor
text_of (Learned p) = put_learned

-- what the statement is given
abbrev pub params_of : Identity → NewRow → Bytes → Row
params_of id (Meta round number) bytes = meta_params id.cluster id.members id.node round number
params_of id (Slot p promised ballot) bytes = slot_params p promised ballot bytes
params_of id (Floor ballot) bytes = floor_params ballot
params_of id (Learned p) bytes = learned_params p bytes

-- its table, its key, the columns that are read, and what they show
abbrev pub tree_of : NewRow → ℕ
tree_of (Meta round number) = 0
tree_of (Slot p promised ballot) = 1
tree_of (Floor ballot) = 2
tree_of (Learned p) = 3

abbrev pub key_of : NewRow → ℕ
key_of (Meta round number) = 1
key_of (Slot p promised ballot) = p
key_of (Floor ballot) = 1
key_of (Learned p) = p

abbrev pub columns_of : NewRow → List ℕ
columns_of (Meta round number) = meta_columns
columns_of (Slot p promised ballot) = slot_columns
columns_of (Floor ballot) = floor_columns
columns_of (Learned p) = learned_columns

abbrev pub row_of : Identity → NewRow → Bytes → Row
row_of id (Meta round number) bytes = meta_row 3 id.cluster id.members id.node round number
row_of id (Slot p promised ballot) bytes = slot_row p promised ballot bytes
row_of id (Floor ballot) bytes = floor_row ballot
row_of id (Learned p) bytes = learned_row p bytes

-- its numbers are integers of a store
abbrev pub AreIntegers : NewRow → Type 0
AreIntegers (Meta round number) = (round < 2 ^ 63) × (number < 2 ^ 63)
AreIntegers (Slot p promised ballot) = (promised < 2 ^ 63) × (ballot < 2 ^ 63)
AreIntegers (Floor ballot) = ballot < 2 ^ 63
AreIntegers (Learned p) = ⊤

-- it is the only row with its key, and nothing else differs where the key had one row of its own or none
abbrev pub IsPut : Identity → NewRow → Bytes → Trees → Trees → Type 0
IsPut id r bytes = Puts (tree_of r) (key_of r) (columns_of r) (row_of id r bytes)

-- What putting a row makes of a connection: after Ok it is stored, committed; when out of memory nothing differs;
-- and a stop at this moment leaves what it left before, or the rows with it put.
pub record Wrote (id : Identity) (r : NewRow) (bytes : Bytes) (answer : Result (Unit {0}) Trouble) (old new : State)
    : Type 0 where
  pub ok : OnOk answer (IsPut id r bytes old.committed.trees new.committed.trees × IsSettled new)
  pub memory : answer ≡ Err Memory → IsStill old new
  pub stop : (db : Trees) → new.may_leave db → old.may_leave db ⊎ IsPut id r bytes old.committed.trees db

-- ---- what it makes of the record

abbrev pub with_row : NewRow → Bytes → Record Bytes → Record Bytes
with_row (Meta round number) bytes d = with_meta d round number
with_row (Slot p promised ballot) bytes d = with_slot d p promised ballot bytes
with_row (Floor ballot) bytes d = with_floor d ballot
with_row (Learned p) bytes d = with_entry d p bytes

-- the numbers beside the connection
abbrev pub meta_with : NewRow → kept.Meta → kept.Meta
meta_with (Meta round number) m = record m { round = round; number = number }
meta_with (Slot p promised ballot) m = m
meta_with (Floor ballot) m = record m { floor = ballot }
meta_with (Learned p) m = m

-- a floor that is put is a ballot, which isn't 0
abbrev pub HasFloor : NewRow → Type 0
HasFloor (Meta round number) = ⊤
HasFloor (Slot p promised ballot) = ⊤
HasFloor (Floor ballot) = ballot ≢ 0
HasFloor (Learned p) = ⊤

-- what it replaces is good, where that is asked
abbrev pub Replaces : NewRow → Stored → Type 0
Replaces (Meta round number) s = ⊤
Replaces (Slot p promised ballot) s = s.is_good (SlotAt p)
Replaces (Floor ballot) s = ⊤
Replaces (Learned p) s = s.is_good (EntryAt p)

-- it is good, and has a proposal where there is one
abbrev pub IsGoodRow : (members : ℕ) → NewRow → Bytes → Record Bytes → Type 0
IsGoodRow n (Meta round number) bytes d = ⊤
IsGoodRow n (Slot p promised ballot) bytes d =
    (p < positions) × ((is_slot n promised ballot bytes ≡ true) × (ballot ≡ 0 → (d.slots p).accepted ≡ None))
IsGoodRow n (Floor ballot) bytes d = ⊤
IsGoodRow n (Learned p) bytes d = (p < positions) × (is_entry n bytes ≡ true)
