use Rattle.std.proofs.Common.{length, ◌≤◌, ◌<◌, ◌-◌}
use Rattle.pf_tables.specs.Columns.{bound}
use Rattle.pf_tables.proofs.column.Column.row.Given as goal

-- the number is from this bucket's bound on and below the end's
abbrev pub invariant-loop-end : goal.invariant-loop-end
invariant-loop-end l = record {
  some : l.bucket < l.end;
  within : l.end ≤ length l.self.bounds.items;
  low : bound l.self.bounds.items l.bucket ≤ l.number;
  high : l.number < bound l.self.bounds.items l.end;
}

abbrev pub decreases-loop-end : goal.decreases-loop-end
decreases-loop-end l = l.end - l.bucket
