use Rattle.cli_ask.specs.Calls.{call_value}
use Rattle.cli_ask.specs.Replies.{reply_value}
use Rattle.cli_ask.proofs.Parts.{PartsSo}
use Rattle.cli_ask.proofs.asking.Asking.parts.Given as goal

abbrev pub invariant-loop-part : goal.invariant-loop-part
invariant-loop-part g l =
    PartsSo (g.C.Control.exchanged l.fn.control) (g.C.Control.exchanged l.control) (call_value l.call) l.self.is_once l.self.deadline.seconds l._part (reply_value l.so_far)
