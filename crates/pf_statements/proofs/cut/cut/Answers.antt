use Rattle.std.proofs.Common.{sym}
use Rattle.std.proofs.lemmas.List.{take_rest}
use Rattle.pf_addr.proofs.Pieces.{cut_found}
use Rattle.pf_statements.proofs.cut.cut.Goals as goal

pub returns-then-b-mark : goal.returns-then-b-mark
returns-then-b-mark c = rw take_rest (sym (cut_found _ _ _ c.loop-i-test.true c.loop-i.invariant c.if-b-mark.true))
