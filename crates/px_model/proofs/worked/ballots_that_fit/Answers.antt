use Rattle.px_model.proofs.FitsCases.{ballots_that_fit}
use Rattle.px_model.proofs.worked.ballots_that_fit.Goals as goal

pub returns : goal.returns
returns c = ballots_that_fit
