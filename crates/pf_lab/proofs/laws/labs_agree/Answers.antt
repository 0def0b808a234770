use Rattle.pf_lab.proofs.Agreeing.{labs_agree}
use Rattle.pf_lab.proofs.laws.labs_agree.Goals as goal

pub returns : goal.returns
returns c = labs_agree
