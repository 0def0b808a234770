use Rattle.px_model.proofs.SingleSteps.{nothing_after_the_last_position}
use Rattle.px_model.proofs.worked.nothing_after_the_last_position.Goals as goal

pub returns : goal.returns
returns c = nothing_after_the_last_position
