use Rattle.px_model.proofs.SingleSteps.{a_client_is_answered}
use Rattle.px_model.proofs.worked.a_client_is_answered.Goals as goal

pub returns : goal.returns
returns c = a_client_is_answered
