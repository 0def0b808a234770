-- with the heads that are left, what is known of proposals and of members is what it is with all
use Rattle.std.proofs.Common.{◌≡◌, drop, length, map}
use Rattle.node_control.specs.inner.Rows.{rows_after, sent_more}
use Rattle.node_control.specs.inner.Observing.{all_noted, in_all, sent_in, seen_of}
use Rattle.node_control.specs.inner.Watching.{proposed_after}
use Rattle.node_control.proofs.observer.Observer.count.Given as goal

abbrev pub invariant-loop-head : goal.invariant-loop-head
invariant-loop-head l = record {
  front : l.self.front ≡ l.fn.self.front;
  now : l.self.now ≡ l.fn.self.now;
  proposed : proposed_after l.fn.self.front l.fn.self.now (drop l.head-index l.heads) l.self.proposed ≡ proposed_after l.fn.self.front l.fn.self.now l.fn.heads l.fn.self.proposed;
  rows : rows_after l.fn.self.now (drop l.head-index l.heads) l.self.rows.items ≡
      rows_after l.fn.self.now l.fn.heads (map (sent_more l.fn.counts.sent) l.fn.self.rows.items);
  seen : all_noted (drop l.head-index l.heads) (seen_of l.self) ≡
      all_noted l.fn.heads (sent_in l.fn.counts (in_all (length l.fn.heads) l.fn.counts (seen_of l.fn.self)));
}
