-- What only code and proofs use beside `Tables`.
use Rattle.std.specs.Prelude.{◌≡◌, [], ◌∷◌, codes, List, ℕ, pos}
use Rattle.sqlite.specs.declared.types.Value.TheVariants.{Int, Blob as Bytes}
use Rattle.sqlite_value.specs.Order.{Row}
use Rattle.sqlite.specs.Schema.{Schema}
use Rattle.sqlite.specs.Table.{Table}
use Rattle.px_store.specs.Tables.{meta, with_tables}

-- ---- the tables

-- the schema of a store that is being made
abbrev pub meta_schema : Schema
meta_schema = with_tables (meta ∷ [])

-- no column is computed, or has a default that reads the time
abbrev pub IsPlain : Table → Type 0
IsPlain t = (t.computed ≡ []) × (t.stamps ≡ record { places = []; terms = []; formats = [] })

-- ---- the statements

abbrev pub make_meta : List ℕ
make_meta = codes "CREATE TABLE meta (id INTEGER PRIMARY KEY CHECK (id = 1), format INTEGER NOT NULL, cluster INTEGER NOT NULL, members INTEGER NOT NULL, node INTEGER NOT NULL, round INTEGER NOT NULL, number INTEGER NOT NULL) STRICT"

abbrev pub make_slots : List ℕ
make_slots = codes "CREATE TABLE slots (position INTEGER PRIMARY KEY, promised INTEGER NOT NULL, ballot INTEGER NOT NULL, entry BLOB NOT NULL) STRICT"

abbrev pub make_floor : List ℕ
make_floor = codes "CREATE TABLE floor (id INTEGER PRIMARY KEY CHECK (id = 1), ballot INTEGER NOT NULL) STRICT"

abbrev pub make_learned : List ℕ
make_learned = codes "CREATE TABLE learned (position INTEGER PRIMARY KEY, entry BLOB NOT NULL) STRICT"

abbrev pub put_meta : List ℕ
put_meta = codes "INSERT OR REPLACE INTO meta VALUES (1, 3, ?1, ?2, ?3, ?4, ?5)"

abbrev pub put_slot : List ℕ
put_slot = codes "INSERT OR REPLACE INTO slots VALUES (?1, ?2, ?3, ?4)"

abbrev pub put_floor : List ℕ
put_floor = codes "INSERT OR REPLACE INTO floor VALUES (1, ?1)"

abbrev pub put_learned : List ℕ
put_learned = codes "INSERT OR REPLACE INTO learned VALUES (?1, ?2)"

abbrev pub get_slot : List ℕ
get_slot = codes "SELECT position, promised, ballot, entry FROM slots WHERE position = ?1"

abbrev pub get_floor : List ℕ
get_floor = codes "SELECT id, ballot FROM floor WHERE id = ?1"

abbrev pub get_learned : List ℕ
get_learned = codes "SELECT position, entry FROM learned WHERE position = ?1"

abbrev pub get_span : List ℕ
get_span = codes "SELECT position, entry FROM learned WHERE position >= ?1 AND position < ?2"

abbrev pub get_top : List ℕ
get_top = codes "SELECT position FROM slots WHERE ballot > 0 ORDER BY position DESC LIMIT 1"

abbrev pub get_end : List ℕ
get_end = codes "SELECT position FROM learned ORDER BY position DESC LIMIT 1"

abbrev pub get_last : List ℕ
get_last = codes "SELECT position FROM slots ORDER BY position DESC LIMIT 1"

-- ---- what the statements are given

abbrev pub meta_params : (cluster members node round number : ℕ) → Row
meta_params c m n round number = Int (pos c) ∷ Int (pos m) ∷ Int (pos n) ∷ Int (pos round) ∷
    Int (pos number) ∷ []

abbrev pub slot_params : (position promised ballot : ℕ) → List ℕ → Row
slot_params p a b e = Int (pos p) ∷ Int (pos a) ∷ Int (pos b) ∷ Bytes e ∷ []

abbrev pub floor_params : ℕ → Row
floor_params b = Int (pos b) ∷ []

abbrev pub learned_params : ℕ → List ℕ → Row
learned_params p e = Int (pos p) ∷ Bytes e ∷ []

abbrev pub key_params : ℕ → Row
key_params p = Int (pos p) ∷ []

abbrev pub span_params : (first end : ℕ) → Row
span_params first end = Int (pos first) ∷ Int (pos end) ∷ []
