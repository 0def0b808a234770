-- the command is sent, and then it is listened
use Rattle.std.proofs.Common.{rules, ◌++◌, ◌∷◌, [], subst, sym}
use Rattle.px_transport.specs.Wires.{Handed}
use Rattle.px_wire.specs.Message.{group}
use Rattle.node_udp.specs.Asking.{IsAsk}
use Rattle.node_udp.proofs.asking.ask_once.Goals as goal

pub returns-clause-asked : goal.returns-clause-asked
returns-clause-asked g c =
    let spelled : IsAsk (group c.args.m.now) c.args.node c.args.command.now c.in_ok-bytes.bytes.items = search rules in (
      c.as_slice-2.result.now,
      subst (IsAsk (group c.args.m.now) c.args.node c.args.command.now) (sym c.as_slice-2.ensures.value) spelled,
      λ es t. c.listen_on.ensures.heard (es ++ Handed c.args.node c.as_slice-2.result.now ∷ []) (c.send-sent.ensures.handed es t),
    )
