-- A budget.
use Rattle.std.specs.Prelude.{ℕ, ◌-◌, Option, Some, None, nat_le, if◌then◌else◌}

-- what is left, if it is enough
abbrev pub minus : ℕ → ℕ → Option ℕ
minus left cost = if nat_le cost left then Some (left - cost) else None

abbrev pub and_then : Option ℕ → (ℕ → Option ℕ) → Option ℕ
and_then None f = None
and_then (Some n) f = f n
