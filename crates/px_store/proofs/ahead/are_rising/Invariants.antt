use Rattle.std.proofs.Common.{◌≡◌, true, drop}
use Rattle.px_store.specs.inner.Ahead.{rises}
use Rattle.px_store.proofs.ahead.are_rising.Given as goal

abbrev pub invariant-loop-row : goal.invariant-loop-row
invariant-loop-row l = rises l.least (drop l.row-index l.rows) ≡ true → rises l.fn.first l.fn.rows ≡ true
