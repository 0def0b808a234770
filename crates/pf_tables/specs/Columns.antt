-- Columns of buckets for lists of intervals.
use Rattle.std.specs.Prelude.{◌≡◌, ℕ, ◌+◌, ◌≤◌, ◌<◌, List, get_or, Some, slice_get}
use Rattle.std.specs.Global.{Vec}
use Rattle.pf_tables.specs.declared.interval.Interval.{Interval}
use Rattle.pf_tables.specs.declared.column.Column.{Column}
use Rattle.pf_tables.specs.Rows.{Marks}

-- where the bucket begins that is behind that many others: past the last one, past all numbers
abbrev pub bound : List ℕ → ℕ → ℕ
bound bounds j = get_or bounds j 4294967296

-- the row of each bucket has a bit for each interval that holds a number of the bucket
abbrev pub AreMarked : List Interval → (bounds : List ℕ) → (rows : List (Vec ℕ)) → Type 0
AreMarked intervals bounds rows =
    (j n : ℕ) → (row : Vec ℕ) → slice_get rows j ≡ Some row → bound bounds j ≤ n → n < bound bounds (j + 1) →
    Marks intervals n row.items

-- the buckets are made for these intervals
abbrev pub IsColumnOf : List Interval → Column → Type 0
IsColumnOf intervals c = AreMarked intervals c.bounds.items c.rows.items
