use Rattle.cli_ask.specs.Calls.{call_value}
use Rattle.cli_ask.proofs.Series.{AskedSo}
use Rattle.cli_ask.proofs.asking.Asking.ask_on.Given as goal

-- each answer so far leaves the request open
abbrev pub invariant-loop-ask : goal.invariant-loop-ask
invariant-loop-ask g l =
    AskedSo (g.C.Control.exchanged l.fn.control) (g.C.Control.exchanged l.control) (call_value l.call) l.self.is_once l.self.deadline.seconds l.is_waiting l.ask
