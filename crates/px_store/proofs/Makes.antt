-- The statements that make the tables.
use Rattle.std.proofs.Common.{◌≡◌, ℕ, List, [], false, None, Ok, refl, sym, ap, subst, ◌∙◌}
use Rattle.sqlite.specs.Table.{Table}
use Rattle.sqlite.specs.Schema.{Schema}
use Rattle.sqlite.specs.Command.TheVariants.{CreateTable}
use Rattle.sqlite.specs.Compile.{table_defined_by}
use Rattle.sqlite.specs.Change.{created, next_tree}
use Rattle.sqlite.specs.Does.{Tally, lacks_sequence}
use Rattle.sqlite.specs.Effect.{Database}
use Rattle.sqlite.specs.Change.{KeepsRows}
use Rattle.sqlite_tied.specs.Compute.{everything}
use Rattle.sqlite.specs.Listing.{understood}
use Rattle.sqlite.specs.State.{State, Writes, Executes}
use Rattle.sqlite.proofs.Callers.{IsPlain, command_of, statement_of, runs_as}
use Rattle.px_store.specs.Tables.{no_schema, schema_1, schema_2, meta, slots, floor, learned}
use Rattle.px_store.specs.inner.Tables.{meta_schema, make_meta, make_slots, make_floor, make_learned}
use Rattle.std.specs.Prelude.{IsTrue}
use Rattle.px_store.specs.inner.Making.{text_of, schema_before, Grows}
use Rattle.px_store.specs.declared.making.NewTable.{NewTable}
use Rattle.px_store.specs.declared.making.NewTable.TheVariants.{Meta, Slots, Floor, Learned}
use Rattle.px_store.proofs.Puts.{went, same_value}

pub record IsCreate (schema : Schema) (text : List ℕ) (table : Table) : Type 0 where
  pub command : command_of (understood schema text) ≡ CreateTable
  pub plain : IsPlain (understood schema text)
  pub whole : statement_of text (understood schema text) ≡ text
  pub defined : table_defined_by text ≡ Ok table
  pub uncounted : lacks_sequence (created schema table) ≡ false

pub makes_meta : IsCreate no_schema make_meta meta
unfolding understood everything
makes_meta = record { command = refl; plain = (refl, refl); whole = refl; defined = refl; uncounted = refl }

pub makes_slots : IsCreate meta_schema make_slots (record slots { tree = 0 })
unfolding understood everything
makes_slots = record { command = refl; plain = (refl, refl); whole = refl; defined = refl; uncounted = refl }

pub makes_floor : IsCreate schema_1 make_floor (record floor { tree = 0 })
unfolding understood everything
makes_floor = record { command = refl; plain = (refl, refl); whole = refl; defined = refl; uncounted = refl }

pub makes_learned : IsCreate schema_2 make_learned (record learned { tree = 0 })
unfolding understood everything
makes_learned = record { command = refl; plain = (refl, refl); whole = refl; defined = refl; uncounted = refl }

pub creates : (schema : Schema) (text : List ℕ) (table : Table) → IsCreate schema text table → (old new : State) (count : ℕ) → old.now.schema ≡ schema → Executes text [] old new (Ok count)
    → (new.now.schema ≡ created schema table) × (new.now.trees (next_tree schema) ≡ []) × KeepsRows schema.tables old.now.trees new.now.trees
creates schema text table it old new count has h =
    let w = subst (λ t. Writes old new None CreateTable t [] count) it.whole (runs_as text [] old new schema has CreateTable it.command it.plain count h) in
    let all = went w.changed in
    let first = went all.1 in
    let made = first.1 in
    let both : Ok made.table ≡ Ok table = sym made.defined ∙ it.defined in
    let same : made.table ≡ table = cc in
    let is : first.0.schema ≡ created schema table = made.is ∙ ap (λ s. created s made.table) has ∙ ap (created schema) same in
    let plain : lacks_sequence first.0.schema ≡ false = ap lacks_sequence is ∙ it.uncounted in
    let now : new.now ≡ first.0 = ap (λ (p : Tally × Database). p.1) (same_value all.2) ∙ same_value (rw plain at first.2) in (
      ap (λ (d : Database). d.schema) now ∙ is,
      ap (λ (d : Database). d.trees (next_tree schema)) now ∙ subst (λ s. first.0.trees (next_tree s) ≡ []) has made.empty,
      subst (λ (d : Database). KeepsRows schema.tables old.now.trees d.trees) (sym now) (subst (λ s. KeepsRows s.tables old.now.trees first.0.trees) has made.others),
    )

-- each table is made behind those before it
pub grows : (table : NewTable) (old new : State) (count : ℕ) → old.now.schema ≡ schema_before table → Executes (text_of table) [] old new (Ok count) → IsTrue new.in_transaction → Grows table old new
grows Meta old new count has h inside = let it = creates no_schema make_meta meta makes_meta old new count has h in record { schema = it.0; empty = it.1; keeps = it.2; inside = inside }
grows Slots old new count has h inside = let it = creates meta_schema make_slots (record slots { tree = 0 }) makes_slots old new count has h in record { schema = it.0; empty = it.1; keeps = it.2; inside = inside }
grows Floor old new count has h inside = let it = creates schema_1 make_floor (record floor { tree = 0 }) makes_floor old new count has h in record { schema = it.0; empty = it.1; keeps = it.2; inside = inside }
grows Learned old new count has h inside = let it = creates schema_2 make_learned (record learned { tree = 0 }) makes_learned old new count has h in record { schema = it.0; empty = it.1; keeps = it.2; inside = inside }
