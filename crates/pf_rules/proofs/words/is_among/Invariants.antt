use Rattle.std.proofs.Common.{◌≡◌, drop, map}
use Rattle.pf_rules.specs.Words.{is_among}
use Rattle.pf_rules.proofs.words.is_among.Given as goal

-- the text is looked for among the words left
abbrev pub invariant-loop-word : goal.invariant-loop-word
invariant-loop-word l = is_among (map (λ w. w.now) (drop l.word-index l.words)) l.text ≡ is_among (map (λ w. w.now) l.words) l.text
