-- the record stays one of three members
use Rattle.std.proofs.Common.{◌≡◌}
use Rattle.rows_stores.proofs.step.follow.Given as goal

abbrev pub invariant-loop-text : goal.invariant-loop-text
invariant-loop-text g l = g.R.Records.members l.records ≡ 3
