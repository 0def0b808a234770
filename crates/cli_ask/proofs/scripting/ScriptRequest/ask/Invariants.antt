use Rattle.std.proofs.Common.{None, length}
use Rattle.cli_ask.specs.Scripts.{items_left, items_in}
use Rattle.cli_ask.proofs.Scripts.{AllSo}
use Rattle.cli_ask.proofs.scripting.ScriptRequest.ask.Given as goal

-- the changes so far are asked
abbrev pub invariant-loop-change : goal.invariant-loop-change
invariant-loop-change g l =
    AllSo (g.C.Control.exchanged l.fn.control) (g.C.Control.exchanged l.control) l.self.from l.self.seconds (items_in l.self.script.now) (items_left l.left None)
    (g.W.Write.contents l.fn.writer) (g.W.Write.contents l.writer)

abbrev pub decreases-loop-change : goal.decreases-loop-change
decreases-loop-change g l = length l.left.bytes.now
