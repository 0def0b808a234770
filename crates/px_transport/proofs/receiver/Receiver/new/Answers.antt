-- one member more
use Rattle.px_transport.proofs.Entries.{entry_more}
use Rattle.px_transport.proofs.receiver.Receiver.new.Goals as goal

pub loop-preserved : goal.loop-preserved
loop-preserved c =
    entry_more c.loop.counter c.loop.entries.items c.push.new.self.items c.in_ok-new.field-0 c.loop.invariant
    c.in_ok-new.ensures c.in_ok-push.ensures.items
