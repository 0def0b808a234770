-- An interval that holds a number meets each run of numbers that has it.
use Rattle.std.proofs.Common.{◌≡◌, ℕ, ◌+◌, ◌-◌, ◌%◌, ◌<◌, ◌≤◌, true, inl, inr, arith}
use Rattle.std.proofs.lemmas.Bool.{cases_lt, le-leb, leb-true, or_left, or_right}
use Rattle.pf_tables.specs.declared.interval.Interval.{Interval}
use Rattle.pf_tables.specs.Intervals.{is_within}
use Rattle.pf_tables.specs.inner.Intervals.{meets}

-- where the first number isn't within, the interval begins between it and the number that is
begins_between : (f w a n b : ℕ) → a ≤ n → n ≤ b → b < 4294967296 → (n + (4294967296 - f)) % 4294967296 ≤ w → w < (a + (4294967296 - f)) % 4294967296 →
    (f + (4294967296 - a)) % 4294967296 ≤ (b + (4294967296 - a)) % 4294967296
begins_between f w a n b low high small within outside = omega (arith, low, high, small, within, outside)

pub within_meets : (x : Interval) (a n b : ℕ) → a ≤ n → n ≤ b → b < 4294967296 → is_within x n ≡ true → meets x a b ≡ true
within_meets x a n b low high small h = elim (cases_lt x.width ((a + (4294967296 - x.first)) % 4294967296)) [
  | inl outside ↦ or_right _ _ (le-leb _ _ (begins_between x.first x.width a n b low high small (leb-true _ _ h) outside))
  | inr inside ↦ or_left _ _ (le-leb _ _ inside)
]
