use Rattle.pf_lab.proofs.Agreeing.{equally_applied}
use Rattle.pf_lab.proofs.laws.equally_applied_are_equal.Goals as goal

pub returns : goal.returns
returns c = equally_applied
