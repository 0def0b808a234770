-- with the heads that are left it is what it is with all
use Rattle.std.proofs.Common.{◌≡◌, drop}
use Rattle.node_control.specs.inner.Hearing.{after_round, all_heard}
use Rattle.node_control.proofs.hearing.Hearing.look.Given as goal

abbrev pub invariant-loop-head : goal.invariant-loop-head
invariant-loop-head g l = all_heard l.fn.now (drop l.head-index l.heads) l.self ≡
    after_round l.fn.now l.fn.heads l.fn.counts l.fn.self
