use Rattle.px_model.proofs.MoreCases.{learning_lets_go}
use Rattle.px_model.proofs.worked.learning_lets_go.Goals as goal

pub returns : goal.returns
returns c = learning_lets_go
