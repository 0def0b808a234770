use Rattle.std.proofs.Common.{arith}
use Rattle.cli_ask.proofs.Parts.{behind_more, behind_none, behind_all}
use Rattle.cli_ask.proofs.verdicts.left_by.Goals as goal

pub returns-in_default : goal.returns-in_default
returns-in_default c = behind_none _ c.loop-line._line c.loop-line.left.now _ (c.in_default.ensures.end) c.loop-line.invariant

pub loop-line-preserved : goal.loop-line-preserved
loop-line-preserved c =
    behind_more _ c.loop-line._line _ c.loop-line.left.now c.in-Some.rest.now _ (omega arith) (c.in-Some.ensures.cut) c.loop-line.invariant

pub returns : goal.returns
returns c = behind_all _ c.loop-line._line c.loop-line.left.now _ (omega arith) c.loop-line.invariant
