-- The formats of a store, and the record that each shows.
use Rattle.std.specs.Prelude.{ℕ, Bool, [], nat_lt, if◌then◌else◌}
use Rattle.sqlite.specs.Schema.{Schema}
use Rattle.sqlite.specs.Tree.{Trees}
use Rattle.px_model.specs.Node.{Record}
use Rattle.px_model.specs.Spelling.{Bytes}
use Rattle.px_store.specs.Tables.{schema_1, schema_2, schema_3}
use Rattle.px_store.specs.Seen.{record_in}
use Rattle.px_store.specs.declared.formats.Format.{Format}
use Rattle.px_store.specs.declared.formats.Format.TheVariants.{One, Two, Three}

-- the tables of a format: each has those of the one before and one more
abbrev pub schema_at : Format → Schema
schema_at One = schema_1
schema_at Two = schema_2
schema_at Three = schema_3

-- how many tables it has
abbrev pub tables_in : Format → ℕ
tables_in One = 2
tables_in Two = 3
tables_in Three = 4

-- it has this table, the first being 0
abbrev pub has_table : ℕ → Format → Bool
has_table t f = nat_lt t (tables_in f)

-- the rows of the tables that there are; the others have none
abbrev pub trees_at : Format → Trees → Trees
trees_at f db t = if has_table t f then db t else []

-- the number of a format in the row for the whole node
abbrev pub number_of : Format → ℕ
number_of One = 1
number_of Two = 2
number_of Three = 3

-- the record of the rows: what an older format lacks is 0, or nothing learned
abbrev pub record_at : Format → Trees → Record Bytes
record_at f db = record_in (trees_at f db)
