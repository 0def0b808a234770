-- the record stays one of three members
use Rattle.std.proofs.Common.{◌≡◌}
use Rattle.rows_stores.proofs.change.make_all.Given as goal

abbrev pub invariant-loop-at : goal.invariant-loop-at
invariant-loop-at g l = g.R.Records.members l.records ≡ 3
