use Rattle.std.proofs.Common.{◌≡◌, map, take}
use Rattle.node_control.specs.inner.Rows.{reported}
use Rattle.node_control.proofs.observer.Observer.first_counters.Given as goal

abbrev pub invariant-loop-row : goal.invariant-loop-row
invariant-loop-row l = l.peers.items ≡ map (reported 0) (take l.row-index l.fn.self.rows.items)
