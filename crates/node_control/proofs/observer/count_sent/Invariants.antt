use Rattle.std.proofs.Common.{◌≡◌, ◌++◌, map, take, drop}
use Rattle.node_control.specs.inner.Rows.{sent_more}
use Rattle.node_control.proofs.observer.count_sent.Given as goal

abbrev pub invariant-loop-row : goal.invariant-loop-row
invariant-loop-row l = l.row-items ≡ map (sent_more l.counts.sent) (take l.row-index l.fn.rows.items) ++ drop l.row-index l.fn.rows.items
