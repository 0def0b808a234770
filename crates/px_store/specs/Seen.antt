-- The record that the rows of the four tables show.
use Rattle.std.specs.Prelude.{◌≡◌, ℕ, ◌<◌, ◌/◌, ◌%◌, ◌^◌, pos, negsuc, Bool}
use Rattle.std.specs.Prelude.{true, false, ◌&&◌}
use Rattle.std.specs.Prelude.{if◌then◌else◌, List, [], ◌∷◌, map, filter, length, Option, Some, None, nat_eq}
use Rattle.std.specs.Prelude.{nat_le}
use Rattle.std.specs.Prelude.{nat_lt}
use Rattle.sqlite.specs.declared.types.Value.{Value}
use Rattle.sqlite.specs.declared.types.Value.TheVariants.{Null, Int, Real, Text, Blob}
use Rattle.sqlite_value.specs.Order.{Row, column, value_cmp}
use Rattle.std.specs.Ordering.{is_gt}
use Rattle.sqlite_rules.specs.Lists.{Has}
use Rattle.sqlite.specs.Collation.TheVariants.{Binary}
use Rattle.sqlite.specs.Ops.{binary, is_true}
use Rattle.sqlite_sql.specs.declared.ops.BinaryOp.TheVariants.{Compare}
use Rattle.sqlite_sql.specs.declared.ops.CompareOp.TheVariants.{Gt}
use Rattle.sqlite_trees.specs.Tree.{Trees, has_rowid}
use Rattle.px_model.specs.Node.{Entry, Proposal, Slot, Record}
use Rattle.px_model.specs.Spelling.{Bytes}
use Rattle.px_model.specs.Step.{positions}
use Rattle.px_store.specs.Entries.{entry_of, is_entry}

-- ---- rows

-- the rows that have this key
abbrev pub rows_at : List Row → ℕ → List Row
rows_at rows p = filter (has_rowid (pos p)) rows

-- what these columns of a row hold
abbrev pub shown : List ℕ → Row → Row
shown columns r = map (column r) columns

-- what these columns of the rows with this key show
abbrev pub seen : List ℕ → List Row → ℕ → List Row
seen columns rows p = map (shown columns) (rows_at rows p)

-- ---- values

-- the number that a value is, 0 where it is no number from 0 on
abbrev pub number_in : Value → ℕ
number_in Null = 0
number_in (Int (pos n)) = n
number_in (Int (negsuc n)) = 0
number_in (Real x) = 0
number_in (Text t) = 0
number_in (Blob b) = 0

-- the bytes that a value is, none where it is no blob
abbrev pub bytes_in : Value → List ℕ
bytes_in Null = []
bytes_in (Int n) = []
bytes_in (Real x) = []
bytes_in (Text t) = []
bytes_in (Blob b) = b

-- ---- slots: position, promised, ballot, entry

-- what is read of a slot's row: position, promised, ballot, entry
abbrev pub slot_columns : List ℕ
slot_columns = 0 ∷ 2 ∷ 3 ∷ 4 ∷ []

-- SQL's `ballot > 0`
abbrev pub is_above : Value → Bool
is_above v = is_true (binary (Compare Gt Binary) v (Int (pos 0)))

-- of rows with one key the first that has a ballot is read
abbrev pub accepted_in : List Row → Option (Proposal Bytes)
accepted_in [] = None
accepted_in (r ∷ more) =
    if is_above (column r 2)
    then Some (record { ballot = number_in (column r 2); entry = entry_of (bytes_in (column r 3)) })
    else accepted_in more

-- the ballot that the first row promises, 0 without a row
abbrev pub promised_in : List Row → ℕ
promised_in [] = 0
promised_in (r ∷ more) = number_in (column r 1)

-- the slot that the rows of a position show
abbrev pub slot_in : List Row → Slot Bytes
slot_in rows = record { promised = promised_in rows; accepted = accepted_in rows }

-- a round from 1 on and a member
abbrev pub is_ballot : (members : ℕ) → ℕ → Bool
is_ballot members b = nat_le 1 (b / 256) && (nat_lt (b / 256) (2 ^ 48) && nat_lt (b % 256) members)

-- 0, or the ballot of a member
abbrev pub is_none_or_ballot : (members : ℕ) → ℕ → Bool
is_none_or_ballot members b = if nat_eq b 0 then true else is_ballot members b

-- either both or neither
abbrev pub is_proposal : (members ballot : ℕ) → List ℕ → Bool
is_proposal members ballot bytes =
    if nat_eq ballot 0 then nat_eq (length bytes) 0 else is_ballot members ballot && is_entry members bytes

-- a promise or 0, and a proposal of a ballot not above it, or none
abbrev pub is_slot : (members promised ballot : ℕ) → List ℕ → Bool
is_slot members promised ballot bytes =
    is_none_or_ballot members promised && (nat_le ballot promised && is_proposal members ballot bytes)

-- a number from 0 on
abbrev pub is_number : Value → Bool
is_number Null = false
is_number (Int (pos n)) = true
is_number (Int (negsuc n)) = false
is_number (Real x) = false
is_number (Text t) = false
is_number (Blob b) = false

-- the value is a blob
abbrev pub is_blob : Value → Bool
is_blob Null = false
is_blob (Int n) = false
is_blob (Real x) = false
is_blob (Text t) = false
is_blob (Blob b) = true

-- the key of a row
abbrev pub is_key : ℕ → Value → Bool
is_key p v = is_number v && nat_eq (number_in v) p

-- a row that a commit may have written for the slot at this position
abbrev pub is_slot_row : (members position : ℕ) → Row → Bool
is_slot_row members p r =
    is_key p (column r 0) && (is_number (column r 1) && (is_number (column r 2) && (is_blob (column r 3)
    && is_slot members (number_in (column r 1)) (number_in (column r 2)) (bytes_in (column r 3)))))

-- no row, or one good row
abbrev pub are_slot_rows : (members position : ℕ) → List Row → Bool
are_slot_rows members p [] = true
are_slot_rows members p (r ∷ []) = is_slot_row members p r
are_slot_rows members p (r ∷ x ∷ more) = false

-- ---- learned: position, entry

-- what is read of a row of what is learned: position, entry
abbrev pub learned_columns : List ℕ
learned_columns = 0 ∷ 2 ∷ []

-- the entry learned at a position, by the first of its rows; none where there is no row
abbrev pub learned_in : List Row → Option (Entry Bytes)
learned_in [] = None
learned_in (r ∷ more) = Some (entry_of (bytes_in (column r 1)))

-- a row that a commit may have written for what is learned at this position
abbrev pub is_learned_row : (members position : ℕ) → Row → Bool
is_learned_row members p r = is_key p (column r 0) && (is_blob (column r 1) && is_entry members (bytes_in (column r 1)))

-- no row, or one good row
abbrev pub are_learned_rows : (members position : ℕ) → List Row → Bool
are_learned_rows members p [] = true
are_learned_rows members p (r ∷ []) = is_learned_row members p r
are_learned_rows members p (r ∷ x ∷ more) = false

-- ---- meta: id, format, cluster, members, node, round, number; floor: id, ballot

-- what is read of the row for the whole node: id, format, cluster, members, node, round, number
abbrev pub meta_columns : List ℕ
meta_columns = 0 ∷ 2 ∷ 3 ∷ 4 ∷ 5 ∷ 6 ∷ 7 ∷ []

-- what is read of the floor's row: id, ballot
abbrev pub floor_columns : List ℕ
floor_columns = 0 ∷ 2 ∷ []

-- the row for the whole node, as it is read; its id is 1
abbrev pub meta_row : (format cluster members node round number : ℕ) → Row
meta_row format cluster members node round number =
    Int (pos 1) ∷ Int (pos format) ∷ Int (pos cluster) ∷ Int (pos members) ∷ Int (pos node) ∷
    Int (pos round) ∷ Int
    (pos number) ∷ []

-- the number in this column of the first row, 0 where there is no row
abbrev pub number_at : ℕ → List Row → ℕ
number_at at [] = 0
number_at at (r ∷ more) = number_in (column r at)

-- ---- the record of the rows

-- the record that the rows of the four tables show
abbrev pub record_in : Trees → Record Bytes
record_in db = record {
  meta = record {
    round = number_at 5 (seen meta_columns (db 0) 1);
    number = number_at 6 (seen meta_columns (db 0) 1);
    floor = number_at 1 (seen floor_columns (db 2) 1);
  };
  slots = λ p. slot_in (seen slot_columns (db 1) p);
  learned = λ p. learned_in (seen learned_columns (db 3) p);
}

-- ---- the last row

-- the row has a proposal, as SQL reads `ballot > 0`
abbrev pub has_ballot : Row → Bool
has_ballot r = is_above (column r 3)

-- each row
abbrev pub any_row : Row → Bool
any_row r = true

-- the row passes, and none that passes has a greater position
abbrev pub IsGreatest : (Row → Bool) → List Row → Row → Type 0
IsGreatest test rows r =
    Has rows r × (test r ≡ true)
    × ((x : Row) → Has rows x → test x ≡ true → is_gt (value_cmp (column x 0) (column r 0)) ≡ false)

-- the last row that passes, if there is one, has a position below 1,000,000, and what is there is good
abbrev pub IsLastGood : (Row → Bool) → (good : ℕ → Type 0) → List Row → Type 0
IsLastGood test good rows =
    (r : Row) → IsGreatest test rows r → (p : ℕ) × (p < positions) × (column r 0 ≡ Int (pos p)) × good p
