-- the bytes are viewed as the entry that they spell
use Rattle.node_udp.specs.Asking.{asked_entry}
use Rattle.node_udp.proofs.Asked.{view_some, view_lent}
use Rattle.node_udp.proofs.asking.asked_view.Goals as goal

pub returns-clause-some : goal.returns-clause-some
returns-clause-some c = view_some (asked_entry c.args.command.now) c.args.bytes.now c.read.result c.requires c.read.ensures.entry

pub returns-clause-lent : goal.returns-clause-lent
returns-clause-lent c =
    view_lent (asked_entry c.args.command.now) c.args.bytes.now c.read.result c.requires c.read.ensures.entry c.read.ensures.bytes
