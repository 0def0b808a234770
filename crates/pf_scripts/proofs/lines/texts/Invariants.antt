use Rattle.std.proofs.Common.{◌≡◌, ◌++◌, map, drop}
use Rattle.std.specs.List.{list_all}
use Rattle.std.specs.Str.{is_utf8}
use Rattle.pf_scripts.proofs.lines.texts.Given as goal

abbrev pub invariant-loop-word : goal.invariant-loop-word
invariant-loop-word l = (map (λ w. w.now) l.texts.items ++ map (λ w. w.now) (drop l.word-index l.found) ≡ map (λ w. w.now) l.found) × (list_all is_utf8 (map (λ w. w.now) (drop l.word-index l.found)) ≡ list_all is_utf8 (map (λ w. w.now) l.found))
