use Rattle.px_model.proofs.SingleSteps.{a_nack_drops_its_own}
use Rattle.px_model.proofs.worked.a_nack_drops_its_own.Goals as goal

pub returns : goal.returns
returns c = a_nack_drops_its_own
