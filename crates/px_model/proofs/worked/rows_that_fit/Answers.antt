use Rattle.px_model.proofs.FitsCases.{rows_that_fit}
use Rattle.px_model.proofs.worked.rows_that_fit.Goals as goal

pub returns : goal.returns
returns c = rows_that_fit
