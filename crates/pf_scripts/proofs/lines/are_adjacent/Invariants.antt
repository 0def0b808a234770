use Rattle.std.proofs.Common.{◌≡◌, map, length}
use Rattle.pf_scripts.specs.Lines.{are_adjacent}
use Rattle.pf_scripts.proofs.lines.are_adjacent.Given as goal

abbrev pub invariant-loop-left : goal.invariant-loop-left
invariant-loop-left l = are_adjacent l.first l.second (map (λ w. w.now) l.left) ≡ are_adjacent l.first l.second (map (λ w. w.now) l.words)

abbrev pub decreases-loop-left : goal.decreases-loop-left
decreases-loop-left l = length l.left
