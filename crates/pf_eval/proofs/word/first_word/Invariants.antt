use Rattle.std.proofs.Common.{◌≡◌, length}
use Rattle.pf_eval.specs.PacketTexts.{words}
use Rattle.pf_eval.proofs.word.first_word.Given as goal

-- only blanks were passed
abbrev pub invariant-loop-rest : goal.invariant-loop-rest
invariant-loop-rest l = words l.rest ≡ words l.text

abbrev pub decreases-loop-rest : goal.decreases-loop-rest
decreases-loop-rest l = length l.rest
