-- The four tables of a record.
use Rattle.std.specs.Prelude.{Bool, true, false, [], ◌∷◌, Some, codes, List, ℕ, pos}
use Rattle.sqlite.specs.Collation.TheVariants.{Binary}
use Rattle.sqlite.specs.declared.types.Value.TheVariants.{Null, Int}
use Rattle.sqlite.specs.Table.{Table}
use Rattle.sqlite_schema.specs.declared.schema.Column.{Column}
use Rattle.sqlite.specs.Schema.{Schema}
use Rattle.sqlite.specs.Term.{Term, lit, col, op2}
use Rattle.sqlite_sql.specs.declared.ops.BinaryOp.TheVariants.{Compare}
use Rattle.sqlite_sql.specs.declared.ops.CompareOp.TheVariants.{Eq}
use Rattle.sqlite.specs.Kind.{Kind}
use Rattle.sqlite.specs.Kind.TheVariants.{Integer, Blob}

-- ---- the tables

-- a strict column of this name and kind, without NULL where not_null
abbrev pub column_of : List ℕ → Kind → (not_null : Bool) → Column
column_of name kind not_null = record {
  name = name;
  kind = kind;
  is_strict = true;
  not_null = not_null;
  default = Null;
  collation = Binary;
}

-- the column that is the table's key
abbrev pub key_column : List ℕ → Column
key_column name = column_of name Integer false

-- a column of integers without NULL
abbrev pub number_column : List ℕ → Column
number_column name = column_of name Integer true

-- a column of blobs without NULL
abbrev pub bytes_column : List ℕ → Column
bytes_column name = column_of name Blob true

-- a table whose key is its first column, with its number among the tables, its columns and its checks
abbrev pub sheet : List ℕ → ℕ → List Column → List Term → Table
sheet name tree columns checks = record {
  name = name;
  tree = tree;
  columns = columns;
  key = Some 0;
  primary = 0 ∷ [];
  uniques = [];
  orders = [];
  checks = checks;
  references = [];
  computed = [];
  stamps = record { places = []; terms = []; formats = [] };
  is_counted = false;
}

-- the row's key is 1
abbrev pub key_is_one : Term
key_is_one = op2 (Compare Eq Binary) (col 1 0) (lit (Int (pos 1)))

-- there is one row, whose key is 1
abbrev pub only_row : List Term
only_row = key_is_one ∷ []

-- the row for the whole node: id, format, cluster, members, node, round, number
abbrev pub meta : Table
meta = sheet (codes "meta") 0
    (key_column (codes "id") ∷ number_column (codes "format") ∷ number_column (codes "cluster") ∷ number_column
    (codes "members")
    ∷ number_column (codes "node") ∷ number_column (codes "round") ∷ number_column (codes "number") ∷
    []) only_row

-- a row for each slot: position, promised, ballot, entry
abbrev pub slots : Table
slots = sheet (codes "slots") 1
    (key_column (codes "position") ∷ number_column (codes "promised") ∷ number_column (codes "ballot") ∷
    bytes_column
    (codes "entry") ∷ []) []

-- the row with the ballot promised at every position: id, ballot
abbrev pub floor : Table
floor = sheet (codes "floor") 2 (key_column (codes "id") ∷ number_column (codes "ballot") ∷ []) only_row

-- a row for each position where an entry is learned: position, entry
abbrev pub learned : Table
learned = sheet (codes "learned") 3 (key_column (codes "position") ∷ bytes_column (codes "entry") ∷ []) []

-- the schema with these tables and nothing else
abbrev pub with_tables : List Table → Schema
with_tables tables = record { tables = tables; indexes = []; views = [] }

-- the schema of an empty store
abbrev pub no_schema : Schema
no_schema = with_tables []

-- the tables of format 1: meta, slots
abbrev pub schema_1 : Schema
schema_1 = with_tables (meta ∷ slots ∷ [])

-- the tables of format 2: those of format 1, and floor
abbrev pub schema_2 : Schema
schema_2 = with_tables (meta ∷ slots ∷ floor ∷ [])

-- the tables of format 3: those of format 2, and learned
abbrev pub schema_3 : Schema
schema_3 = with_tables (meta ∷ slots ∷ floor ∷ learned ∷ [])
