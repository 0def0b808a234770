-- What only code and proofs use beside `Rows`.
use Rattle.std.specs.Prelude.{ℕ, ◌≤◌, List}
use Rattle.pf_tables.specs.declared.interval.Interval.{Interval}
use Rattle.pf_tables.specs.Rows.{Marks}

-- the same for each number from a to b
abbrev pub MarksBetween : List Interval → (a b : ℕ) → List ℕ → Type 0
MarksBetween intervals a b row = (n : ℕ) → a ≤ n → n ≤ b → Marks intervals n row
