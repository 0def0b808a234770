-- A budget.
use Rattle.std.specs.Prelude.{ℕ, ◌-◌, Option, Some, None, nat_le, if◌then◌else◌}

-- what is left, if it is enough
abbrev pub minus : ℕ → ℕ → Option ℕ
minus left cost = if nat_le cost left then Some (left - cost) else None

-- a cost, if it is within a budget
abbrev pub within : (budget cost : ℕ) → Option ℕ
within budget cost = if nat_le cost budget then Some cost else None
