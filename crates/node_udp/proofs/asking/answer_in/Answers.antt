-- the node's message is the answer that it gives
use Rattle.std.proofs.Common.{rules}
use Rattle.px_wire.specs.Message.{group}
use Rattle.px_wire.specs.Seen.{message_of}
use Rattle.node_udp.proofs.Asked.{answers_reported}
use Rattle.node_udp.proofs.asking.answer_in.Goals as goal

pub returns-in-Ok : goal.returns-in-Ok
returns-in-Ok c =
    answers_reported (group c.args.m.now) c.in-Ok.from c.args.m.now.me c.args.node c.args.bytes.now (message_of c.in-Ok.message) c.ask_answer.result
    c.requires (search rules) (search rules) c.ask_answer.ensures c.in-Ok.ensures.only
