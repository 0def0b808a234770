use Rattle.std.proofs.Common.{◌≡◌, ◌++◌, map, length}
use Rattle.pf_scripts.specs.Lines.{lines}
use Rattle.pf_tool.proofs.packets.packet_texts.Given as goal

-- the lines so far, and those that are left
abbrev pub invariant-loop-line : goal.invariant-loop-line
invariant-loop-line l = map (λ c. c.now) l.found.items ++ map (λ k. k.content) (lines l.left) ≡ map (λ k. k.content) (lines l.bytes)

abbrev pub decreases-loop-line : goal.decreases-loop-line
decreases-loop-line l = length l.left
