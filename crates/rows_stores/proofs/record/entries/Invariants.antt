-- how many members the record speaks of stays
use Rattle.std.proofs.Common.{◌≡◌}
use Rattle.rows_stores.proofs.record.entries.Given as goal

abbrev pub invariant-loop-at : goal.invariant-loop-at
invariant-loop-at g l = g.R.Records.members l.records ≡ g.R.Records.members l.fn.records
