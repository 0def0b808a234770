-- the record stays one of three members
use Rattle.std.proofs.Common.{◌≡◌}
use Rattle.rows_stores.proofs.record.read.Given as goal

abbrev pub invariant-loop : goal.invariant-loop
invariant-loop g l = g.R.Records.members l.records ≡ 3
