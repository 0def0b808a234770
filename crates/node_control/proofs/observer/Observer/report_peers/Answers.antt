use Rattle.std.proofs.Common.{◌≡◌, ◌∙◌, ◌<◌, length, rules, ap}
use Rattle.std.specs.Prelude.{nat_lt}
use Rattle.node_control.specs.inner.Rows.{reported}
use Rattle.node_control.proofs.Rows.{written, found}
use Rattle.node_control.proofs.observer.Observer.report_peers.Goals as goal
use Rattle.node_control.proofs.observer.Observer.report_peers.Goals.{in-Some, in_default}

pub loop-i-preserved : goal.loop-i-preserved
loop-i-preserved c same =
    let below : c.loop-i.i < length c.args.self.now.rows.items = search rules in
    elim c.match-get.branch [
      | in-Some w ↦ w.peer-items-is ∙ written (reported c.args.self.now.now) c.args.self.now.rows.items c.loop-i.peer-items c.args.peers.now.items c.loop-i.i
          w.in-Some.row.now w.peer_counters.result below same (c.loop-i.invariant same) (search rules) w.peer_counters.ensures
      | in_default w ↦ absurd (found c.get.result c.loop-i.i (length c.args.self.now.rows.items)
          (c.get.ensures.lookup.0 ∙ ap (λ xs. nat_lt c.loop-i.i (length xs)) c.deref.ensures.value) w.in_default.is below)
    ]
