use Rattle.std.proofs.Common.{◌≡◌, ◌++◌, map, take, drop}
use Rattle.node_control.specs.inner.Rows.{sampled}
use Rattle.node_control.proofs.observer.sample.Given as goal

abbrev pub invariant-loop-row : goal.invariant-loop-row
invariant-loop-row l = l.row-items ≡ map sampled (take l.row-index l.fn.rows.items) ++ drop l.row-index l.fn.rows.items
