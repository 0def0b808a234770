-- the bytes are read as the command
use Rattle.std.proofs.Common.{arith}
use Rattle.pf_node.specs.Asked.{unnamed}
use Rattle.pf_node.proofs.Commands.{read_some, read_command, read_spelled}
use Rattle.pf_node.proofs.asking.asked_entry.Goals as goal

pub returns-clause-some : goal.returns-clause-some
returns-clause-some c = read_some (unnamed c.args.command.now) c.args.bytes.now c.read.result c.requires c.read.ensures.entry

pub returns-clause-command : goal.returns-clause-command
returns-clause-command c = read_command (unnamed c.args.command.now) c.args.bytes.now c.read.result c.requires c.read.ensures.entry

pub returns-clause-spelled : goal.returns-clause-spelled
returns-clause-spelled c = read_spelled (unnamed c.args.command.now) c.args.bytes.now c.read.result (λ i. omega (arith, c.type_inv.bytes i)) c.requires c.read.ensures.entry
