use Rattle.std.proofs.Common.{◌≡◌, ◌++◌, map, drop}
use Rattle.std.specs.List.{list_all}
use Rattle.pf_rules.specs.Words.{is_anchor_text}
use Rattle.pf_config.proofs.path_text.names_of.Given as goal

abbrev pub invariant-loop-piece : goal.invariant-loop-piece
invariant-loop-piece l = (l.names.items ++ map (λ w. w.now) (drop l.piece-index l.pieces) ≡ map (λ w. w.now) l.pieces) × (list_all is_anchor_text (map (λ w. w.now) (drop l.piece-index l.pieces)) ≡ list_all is_anchor_text (map (λ w. w.now) l.pieces))
