use Rattle.std.proofs.Common.{rules}
use Rattle.node_control.specs.inner.Rows.{sent_more}
use Rattle.node_control.proofs.Rows.{changed}
use Rattle.node_control.proofs.observer.count_sent.Goals as goal

pub loop-row-preserved : goal.loop-row-preserved
loop-row-preserved c = changed (sent_more c.args.counts.now.sent) c.args.rows.now.items c.loop-row.row-items c.loop-row.row-index _ c.count_sent.new.self (search rules) c.loop-row.invariant (search rules) c.count_sent.ensures
