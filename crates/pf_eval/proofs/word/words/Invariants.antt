use Rattle.std.proofs.Common.{◌≡◌, ◌≤◌, ◌-◌, ◌++◌, map, take, drop}
use Rattle.pf_eval.specs.PacketTexts.{words, words_from}
use Rattle.pf_eval.proofs.word.words.Given as goal

-- the words so far, then those of the text that is left, of which one has begun
abbrev pub invariant-loop-i : goal.invariant-loop-i
invariant-loop-i l = (map (λ w. w.now) l.found.items ++ words_from (take (l.i - l.start) (drop l.start l.text)) (drop l.i l.text) ≡ words l.text) × (l.start ≤ l.i)
