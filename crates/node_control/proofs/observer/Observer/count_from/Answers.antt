use Rattle.std.proofs.Common.{rules}
use Rattle.node_control.specs.inner.Rows.{heard_from}
use Rattle.node_control.proofs.Rows.{changed}
use Rattle.node_control.proofs.observer.Observer.count_from.Goals as goal

pub loop-row-preserved : goal.loop-row-preserved
loop-row-preserved c = changed (heard_from c.args.from c.args.shown c.args.self.now.now) c.args.self.now.rows.items c.loop-row.row-items c.loop-row.row-index _ c.count_from.new.self (search rules) c.loop-row.invariant (search rules) c.count_from.ensures
