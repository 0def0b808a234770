use Rattle.px_model.proofs.ProgressCases.{the_laws_apply}
use Rattle.px_model.proofs.worked.the_laws_apply.Goals as goal

pub returns : goal.returns
returns c = the_laws_apply
