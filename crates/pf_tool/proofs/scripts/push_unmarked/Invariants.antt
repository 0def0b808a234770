use Rattle.std.proofs.Common.{◌≡◌, ◌++◌, None, length, map}
use Rattle.pf_scripts.specs.Lines.{ScriptLine, lines}
use Rattle.pf_tool.proofs.scripts.push_unmarked.Given as goal

-- the marks so far, and those of the lines that are left
abbrev pub invariant-loop-line : goal.invariant-loop-line
invariant-loop-line l = l.marks.items ++ map (λ (k : ScriptLine). None) (lines l.left) ≡ l.fn.marks.items ++ map (λ (k : ScriptLine). None) (lines l.text)

abbrev pub decreases-loop-line : goal.decreases-loop-line
decreases-loop-line l = length l.left
