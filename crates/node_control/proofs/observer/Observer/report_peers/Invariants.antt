use Rattle.std.proofs.Common.{◌≡◌, ◌++◌, map, take, drop, length}
use Rattle.node_control.specs.inner.Rows.{reported}
use Rattle.node_control.proofs.observer.Observer.report_peers.Given as goal

abbrev pub invariant-loop-i : goal.invariant-loop-i
invariant-loop-i l = length l.fn.peers.items ≡ length l.fn.self.rows.items →
    l.peer-items ≡ map (reported l.fn.self.now) (take l.i l.fn.self.rows.items) ++ drop l.i l.fn.peers.items
