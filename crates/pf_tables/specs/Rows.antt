-- Rows of bits, and which places they mark.
use Rattle.std.specs.Prelude.{◌≡◌, ℕ, ◌/◌, ◌%◌, ◌≤◌, ◌<◌, true, List, Some, get_or, slice_get}
use Rattle.std.specs.Int.{bit_at}
use Rattle.pf_tables.specs.declared.interval.Interval.{Interval}
use Rattle.pf_tables.specs.declared.row.Row.{Row}
use Rattle.pf_tables.specs.Intervals.{is_within}

-- the row has a bit for this place: words of 64 bits, in each the lowest one first
abbrev pub HasBit : List ℕ → ℕ → Type 0
HasBit row i = bit_at (get_or row (i / 64) 0) (i % 64) ≡ 1

-- the row has a bit wherever the interval holds the number
abbrev pub Marks : List Interval → ℕ → List ℕ → Type 0
Marks intervals n row =
    (i : ℕ) → (x : Interval) → slice_get intervals i ≡ Some x → is_within x n ≡ true → HasBit row i

-- all three rows have a bit for this place
abbrev pub HasPlace : Row → ℕ → Type 0
HasPlace row i = HasBit row.source.now i × HasBit row.destination.now i × HasBit row.destination_port.now i

-- no place from a to before b has a bit in all three rows
abbrev pub IsPassed : Row → (a b : ℕ) → Type 0
IsPassed row a b = (i : ℕ) → a ≤ i → i < b → HasPlace row i → ⊥

-- it is the first such place from a on
abbrev pub IsNext : Row → (a i : ℕ) → Type 0
IsNext row a i = (a ≤ i) × HasPlace row i × IsPassed row a i

-- there is none from a on
abbrev pub HasNone : Row → (a : ℕ) → Type 0
HasNone row a = (i : ℕ) → a ≤ i → HasPlace row i → ⊥
