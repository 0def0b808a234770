use Rattle.std.proofs.Common.{length, ◌≡◌, ◌≤◌, ℕ, ◌*◌, ◌<◌, true, Some, drop}
use Rattle.std.specs.Prelude.{slice_get}
use Rattle.pf_tables.specs.inner.Intervals.{meets}
use Rattle.pf_tables.specs.Rows.{HasBit}
use Rattle.pf_tables.specs.declared.interval.Interval.{Interval}
use Rattle.pf_tables.proofs.column.row_of.Given as goal

abbrev pub invariant-loop-left : goal.invariant-loop-left
invariant-loop-left l = record {
  rest : l.left ≡ drop (64 * length l.row.items) l.intervals;
  few : length l.row.items ≤ 1024;
  marked : (i : ℕ) → (x : Interval) → i < 64 * length l.row.items → slice_get l.intervals i ≡ Some x →
      meets x l.first l.last ≡ true → HasBit l.row.items i;
}

abbrev pub decreases-loop-left : goal.decreases-loop-left
decreases-loop-left l = length l.left
