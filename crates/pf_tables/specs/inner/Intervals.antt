-- What only code and proofs use beside `Intervals`.
use Rattle.std.specs.Prelude.{ℕ, ◌+◌, ◌-◌, ◌%◌, ◌||◌, Bool, nat_le}
use Rattle.pf_tables.specs.declared.interval.Interval.{Interval}
use Rattle.pf_tables.specs.Intervals.{is_within}

-- one of the numbers from a to b is in the interval: a itself, or the interval's first one is among them
abbrev pub meets : Interval → (a b : ℕ) → Bool
meets i a b = is_within i a
    || nat_le ((i.first + (4294967296 - a)) % 4294967296) ((b + (4294967296 - a)) % 4294967296)
