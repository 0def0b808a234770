-- one member after the other
use Rattle.std.proofs.Common.{rules, arith}
use Rattle.px_transport.proofs.Entries.{due_more, due_all}
use Rattle.px_transport.proofs.receiver.Receiver.due.Goals as goal

pub loop-i-preserved : goal.loop-i-preserved
loop-i-preserved c mine hs is =
    due_more hs c.args.self.now.entries.items c.loop-i.i c.index-entry.result.now c.loop-i.first c.earlier-first.result
    is.heard (omega (arith, c.loop-i-test.true, c.len-i-end.ensures)) c.index-entry.ensures (search rules)
    (c.loop-i.invariant mine hs is)

pub returns : goal.returns
returns c mine hs is =
    due_all hs c.args.self.now.entries.items c.loop-i.i c.loop-i.first is.heard
    (omega (arith, c.loop-i-test.false, c.len-i-end.ensures)) (c.loop-i.invariant mine hs is)
