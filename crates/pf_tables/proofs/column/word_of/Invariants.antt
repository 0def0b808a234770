use Rattle.std.proofs.Common.{◌≡◌, ℕ, ◌<◌, true, Some}
use Rattle.std.specs.Int.{bit_at}
use Rattle.std.specs.Prelude.{slice_get}
use Rattle.pf_tables.specs.inner.Intervals.{meets}
use Rattle.pf_tables.specs.declared.interval.Interval.{Interval}
use Rattle.pf_tables.proofs.column.word_of.Given as goal

abbrev pub invariant-loop-place : goal.invariant-loop-place
invariant-loop-place l =
    (k : ℕ) → (x : Interval) → k < l.place → slice_get l.intervals k ≡ Some x → meets x l.first l.last ≡ true →
    bit_at l.word k ≡ 1
