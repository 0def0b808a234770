use Rattle.std.proofs.Common.{rules}
use Rattle.node_control.specs.inner.Rows.{sampled}
use Rattle.node_control.proofs.Rows.{changed}
use Rattle.node_control.proofs.observer.sample.Goals as goal

pub loop-row-preserved : goal.loop-row-preserved
loop-row-preserved c = changed sampled c.args.rows.now.items c.loop-row.row-items c.loop-row.row-index _ c.sample.new.self (search rules) c.loop-row.invariant (search rules) c.sample.ensures
