use Rattle.std.proofs.Common.{length, ◌≡◌, ◌≤◌, ℕ, Some}
use Rattle.std.specs.Global.{Vec}
use Rattle.std.specs.Prelude.{slice_get}
use Rattle.pf_tables.specs.Columns.{AreMarked}
use Rattle.pf_tables.proofs.column.Column.of.Given as goal

abbrev pub invariant-loop-bucket : goal.invariant-loop-bucket
invariant-loop-bucket l = record {
  alike : length l.rows.items ≡ l.bucket;
  few : (j : ℕ) → (row : Vec ℕ) → slice_get l.rows.items j ≡ Some row → length row.items ≤ 1024;
  marked : AreMarked l.intervals l.first-items l.rows.items;
}
