-- a row for each of those before
use Rattle.std.proofs.Common.{◌≡◌}
use Rattle.node_control.specs.Observers.{first_rows}
use Rattle.node_control.proofs.observer.first_rows.Given as goal

abbrev pub invariant-loop-node : goal.invariant-loop-node
invariant-loop-node l = l.rows.items ≡ first_rows l.m.me l.node
