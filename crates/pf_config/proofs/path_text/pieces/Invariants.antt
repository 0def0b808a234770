use Rattle.std.proofs.Common.{◌≡◌, ◌≤◌, ◌-◌, ◌++◌, map, take, drop}
use Rattle.pf_config.specs.PathTexts.{pieces, pieces_from}
use Rattle.pf_config.proofs.path_text.pieces.Given as goal

-- the pieces so far, then those of the text that is left, of which one has begun
abbrev pub invariant-loop-i : goal.invariant-loop-i
invariant-loop-i l = (map (λ w. w.now) l.found.items ++ pieces_from (take (l.i - l.start) (drop l.start l.text)) (drop l.i l.text) ≡ pieces l.text) × (l.start ≤ l.i)
