-- What only code and proofs use beside `Ready`.
use Rattle.std.specs.Prelude.{◌≡◌, ℕ, true, false, List, [], ◌∷◌}
use Rattle.std.specs.Coded.{×_prop, coded_list}
use base.Stored.{Coded-set}
use mathlib.Core.Bool.{Bool-set}
use mathlib.Core.HLevel.{Π_prop}
use Rattle.sqlite.specs.Tree.{Trees}
use Rattle.sqlite_value.specs.Order.{Row}
use Rattle.sqlite_value.specs.contracts.value.Value as value
use Rattle.sqlite_schema.specs.contracts.schema.Schema.{the_row}
use Rattle.sqlite.specs.State.{State, HasCleanDisk}
use Rattle.px_model.specs.Fits.{MetaFits}
use Rattle.px_model.specs.Seen.{meta_of}
use Rattle.px_model.specs.declared.record.Meta.{Meta}
use Rattle.px_records.specs.inner.Props.{MetaFits-prop}
use Rattle.px_store.specs.Tables.{schema_3}
use Rattle.px_store.specs.Seen.{seen, meta_columns, meta_row, number_at, floor_columns}
use Rattle.px_store.specs.inner.Seen.{floor_rows}
use Rattle.px_store.specs.inner.Ahead.{IsAhead}
use Rattle.px_store.specs.declared.ahead.Ahead.{Ahead}
use Rattle.px_store.specs.declared.calls.Identity.{Identity}

-- what the rows for the whole node show: whom the store belongs to, and these numbers
abbrev pub IsMeta : Identity → Meta → Trees → Type 0
IsMeta id m db =
    (seen meta_columns (db 0) 1 ≡ meta_row 3 id.cluster id.members id.node m.round m.number ∷ [])
    × (seen floor_columns (db 2) 1 ≡ floor_rows m.floor)

-- while no call has failed and the disk returned what was written the connection is open, outside a transaction, has
-- the four tables, and the numbers are those of its rows
abbrev pub IsReady : ℕ → Identity → Meta → State → Type 0
IsReady failures id m s =
    failures ≡ 0 → HasCleanDisk s → (s.now.schema ≡ schema_3) ×
    ((s.in_transaction ≡ false) ×
    ((s.is_open ≡ true) × IsMeta id m s.committed.trees))

pub IsReady-prop : (failures : ℕ) (id : Identity) (m : Meta) (s : State) → IsProp (IsReady failures id m s)
IsReady-prop failures id m s =
    Π_prop (λ _. Π_prop (λ _. ×_prop (Coded-set the_row.coded _ _) (×_prop (Bool-set _ _) (×_prop
    (Bool-set _ _)
    (×_prop (Coded-set (coded_list (coded_list value.the_row.coded)) _ _) (Coded-set (coded_list
    (coded_list value.the_row.coded)) _ _))))))

-- the numbers that are kept beside the connection fit
abbrev pub AreBounded : Identity → Meta → Type 0
AreBounded id m = MetaFits id.members (meta_of m)

pub AreBounded-prop : (id : Identity) (m : Meta) → IsProp (AreBounded id m)
AreBounded-prop id m = MetaFits-prop id.members (meta_of m)

-- the row for the whole node names this node
abbrev pub IsNamed : Identity → List Row → Type 0
IsNamed id rows = rows ≡ meta_row 3 id.cluster id.members id.node (number_at 5 rows) (number_at 6 rows) ∷ []

-- whatever the next opening may find is this node's, where the disk returned what was written
abbrev pub IsOwned : Identity → State → Type 0
IsOwned id s = HasCleanDisk s → (db : Trees) → s.may_leave db → IsNamed id (seen meta_columns (db 0) 1)

pub IsOwned-prop : (id : Identity) (s : State) → IsProp (IsOwned id s)
IsOwned-prop id s =
    Π_prop (λ _. Π_prop (λ _. Π_prop (λ _. Coded-set (coded_list (coded_list value.the_row.coded)) _ _)))

-- while no call has failed and the disk returned what was written, the rows that were read ahead are the table's
abbrev pub AreAhead : ℕ → Ahead → State → Type 0
AreAhead failures a s = failures ≡ 0 → HasCleanDisk s → IsAhead a.next a.end (s.committed.trees 3) a.rows.items

pub AreAhead-prop : (failures : ℕ) (a : Ahead) (s : State) → IsProp (AreAhead failures a s)
AreAhead-prop failures a s =
    Π_prop (λ _. Π_prop (λ _. ×_prop (Bool-set _ _) (Π_prop (λ _. Π_prop (λ _. Π_prop (λ _. Coded-set (coded_list
    (coded_list value.the_row.coded)) _ _))))))
