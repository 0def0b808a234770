-- of those before
use Rattle.std.proofs.Common.{◌≡◌}
use Rattle.node_control.specs.inner.Hearing.{heard_below}
use Rattle.node_control.proofs.hearing.Hearing.count_heard.Given as goal

abbrev pub invariant-loop-member : goal.invariant-loop-member
invariant-loop-member l = l.count ≡ heard_below l.fn.self.m.me l.fn.now l.fn.self.heard l.member
