-- What only code and proofs use beside `Cells`.
use Rattle.std.specs.Prelude.{ℕ, if◌then◌else◌, nat_lt}

-- the same below a new front forgotten
abbrev pub forgotten_below : (front : ℕ) → ((position member : ℕ) → ℕ) → (position member : ℕ) → ℕ
forgotten_below front kept p m = if nat_lt p front then 0 else kept p m
