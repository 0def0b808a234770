-- What the statements that make a store do to it.
use Rattle.std.specs.Prelude.{◌≡◌, ℕ, IsTrue, List, [], ◌∷◌}
use Rattle.sqlite_value.specs.Order.{Row}
use Rattle.sqlite.specs.Schema.{Schema}
use Rattle.sqlite.specs.Change.{KeepsRows}
use Rattle.sqlite.specs.State.{State}
use Rattle.px_store.specs.Tables.{no_schema, schema_1, schema_2, schema_3}
use Rattle.px_store.specs.inner.Tables.{meta_schema, make_meta, make_slots, make_floor, make_learned}
use Rattle.px_store.specs.Seen.{seen, meta_columns, meta_row}
use Rattle.px_store.specs.inner.Effect.{Puts}
use Rattle.px_store.specs.Formats.{trees_at}
use Rattle.px_store.specs.declared.formats.Format.{Format}
use Rattle.px_store.specs.declared.making.NewTable.{NewTable}
use Rattle.px_store.specs.declared.making.NewTable.TheVariants.{Meta, Slots, Floor, Learned}
use Rattle.px_store.specs.declared.calls.Identity.{Identity}

-- the statement that makes a table
abbrev pub text_of : NewTable → List ℕ
text_of Meta = make_meta
text_of Slots = make_slots
text_of Floor = make_floor
text_of Learned = make_learned

-- its number among the tables
abbrev pub tree_of : NewTable → ℕ
tree_of Meta = 0
tree_of Slots = 1
tree_of Floor = 2
tree_of Learned = 3

-- the tables before it
abbrev pub schema_before : NewTable → Schema
schema_before Meta = no_schema
schema_before Slots = meta_schema
schema_before Floor = schema_1
schema_before Learned = schema_2

-- those, and itself
abbrev pub schema_after : NewTable → Schema
schema_after Meta = meta_schema
schema_after Slots = schema_1
schema_after Floor = schema_2
schema_after Learned = schema_3

-- inside a transaction a table was made, empty, and the others keep their rows
pub record Grows (table : NewTable) (old new : State) : Type 0 where
  pub schema : new.now.schema ≡ schema_after table
  pub empty : new.now.trees (tree_of table) ≡ []
  pub keeps : KeepsRows (schema_before table).tables old.now.trees new.now.trees
  pub inside : IsTrue new.in_transaction

-- inside a transaction the row for the whole node was put
pub record PutsMeta (id : Identity) (round number : ℕ) (old new : State) : Type 0 where
  pub put : Puts 0 1 meta_columns (meta_row 3 id.cluster id.members id.node round number) old.now.trees new.now.trees
  pub schema : new.now.schema ≡ schema_3
  pub inside : IsTrue new.in_transaction

-- a store of format 3 with this row, and these in the other tables
pub record Brought (id : Identity) (round number : ℕ) (slots floor learned : List Row) (new : State) : Type 0 where
  pub schema : new.now.schema ≡ schema_3
  pub meta : seen meta_columns (new.now.trees 0) 1 ≡ meta_row 3 id.cluster id.members id.node round number ∷ []
  pub slots_are : new.now.trees 1 ≡ slots
  pub floor_are : new.now.trees 2 ≡ floor
  pub learned_are : new.now.trees 3 ≡ learned

-- inside a transaction over the tables of format 3, with the rows of an earlier one
pub record Raised (from : Format) (old new : State) : Type 0 where
  pub schema : new.now.schema ≡ schema_3
  pub slots : new.now.trees 1 ≡ old.now.trees 1
  pub floor : new.now.trees 2 ≡ trees_at from old.now.trees 2
  pub learned : new.now.trees 3 ≡ trees_at from old.now.trees 3
  pub inside : IsTrue new.in_transaction
