use Rattle.std.proofs.Common.{◌≡◌, ◌++◌, map, take, drop}
use Rattle.node_control.specs.inner.Rows.{heard_from}
use Rattle.node_control.proofs.observer.Observer.count_from.Given as goal

abbrev pub invariant-loop-row : goal.invariant-loop-row
invariant-loop-row l =
    l.row-items ≡ map (heard_from l.from l.shown l.fn.self.now) (take l.row-index l.fn.self.rows.items) ++ drop l.row-index l.fn.self.rows.items
