-- Which numbers are in an interval.
use Rattle.std.specs.Prelude.{ℕ, ◌+◌, ◌-◌, ◌%◌, Bool, nat_le}
use Rattle.pf_tables.specs.declared.interval.Interval.{Interval}

-- the number is in the interval: so far from its first one that the width reaches it
abbrev pub is_within : Interval → ℕ → Bool
is_within i n = nat_le ((n + (4294967296 - i.first)) % 4294967296) i.width
