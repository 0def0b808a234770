use Rattle.std.proofs.lemmas.Bool.Decides.{nat_tests}
use Rattle.std.proofs.Common.{arith}
use Rattle.std.proofs.lemmas.List.{take_rest}
use Rattle.pf_addr.proofs.Pieces.{cut_early}
use Rattle.pf_addr.proofs.reading.cut_dot.Goals as goal

-- src/reading.rt:95:1
pub returns-in-46-3 : goal.returns-in-46-3
returns-in-46-3 c = grind (arith, nat_tests, cut_early c.args.text.now, take_rest c.args.text.now 4)
