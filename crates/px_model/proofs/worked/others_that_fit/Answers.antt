use Rattle.px_model.proofs.FitsCases.{others_that_fit}
use Rattle.px_model.proofs.worked.others_that_fit.Goals as goal

pub returns : goal.returns
returns c = others_that_fit
