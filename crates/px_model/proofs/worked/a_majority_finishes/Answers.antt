use Rattle.px_model.proofs.ProgressCases.{a_majority_finishes}
use Rattle.px_model.proofs.worked.a_majority_finishes.Goals as goal

pub returns : goal.returns
returns c = a_majority_finishes
