use Rattle.cli_ask.specs.Calls.{call_value}
use Rattle.cli_ask.proofs.Parts.{AnewSo}
use Rattle.cli_ask.proofs.asking.Asking.verdicts.Given as goal

abbrev pub invariant-loop-beginning : goal.invariant-loop-beginning
invariant-loop-beginning g l =
    AnewSo (g.C.Control.exchanged l.fn.control) (g.C.Control.exchanged l.control) (call_value l.call) l.self.is_once l.self.deadline.seconds l._beginning
