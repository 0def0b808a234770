use Rattle.std.proofs.Common.{◌≡◌, length}
use Rattle.pf_scripts.specs.Lines.{lines}
use Rattle.pf_lab.specs.Scripts.{printed_lines}
use Rattle.pf_lab.proofs.script.begun.Given as goal

-- the lines so far are blank
abbrev pub invariant-loop-line : goal.invariant-loop-line
invariant-loop-line l = printed_lines (lines l.left) ≡ printed_lines (lines l.script)

abbrev pub decreases-loop-line : goal.decreases-loop-line
decreases-loop-line l = length l.left
