-- Rows that are read before they are asked.
use Rattle.std.specs.Prelude.{◌≡◌, ◌≤◌, ◌<◌, ◌+◌, ℕ, Bool, true, false, ◌&&◌, List, [], ◌∷◌, nat_le}
use Rattle.sqlite_value.specs.Order.{Row, column}
use Rattle.px_store.specs.Seen.{rows_at, seen, learned_columns, is_number, number_in, is_key}
use Rattle.px_store.specs.inner.Effect.{IsAlike}

-- the keys are numbers from this one on, each above the one before
abbrev pub rises : ℕ → List Row → Bool
rises n [] = true
rises n (r ∷ more) =
    is_number (column r 0) && (nat_le n (number_in (column r 0)) && rises (number_in (column r 0) + 1) more)

-- the first row has this key
abbrev pub has_first : ℕ → List Row → Bool
has_first p [] = false
has_first p (r ∷ more) = is_key p (column r 0)

-- the rows of each of these positions are those of the table, in some order
abbrev pub AreAlike : (first end : ℕ) → (table rows : List Row) → Type 0
AreAlike first end table rows =
    (p : ℕ) → first ≤ p → p < end → IsAlike (seen learned_columns table p) (rows_at rows p)

-- the rows rise, and those of each of these positions are the table's
abbrev pub IsAhead : (next end : ℕ) → (table rows : List Row) → Type 0
IsAhead next end table rows =
    (rises next rows ≡ true)
    × ((p : ℕ) → next ≤ p → p < end → seen learned_columns table p ≡ rows_at rows p)
