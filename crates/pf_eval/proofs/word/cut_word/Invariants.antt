use Rattle.pf_eval.proofs.Words.{HasBegun}
use Rattle.pf_eval.proofs.word.cut_word.Given as goal

-- the word has begun
abbrev pub invariant-loop-i : goal.invariant-loop-i
invariant-loop-i l = HasBegun l.text l.i
