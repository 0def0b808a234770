use Rattle.px_model.proofs.SingleSteps.{the_clock_makes_proposals}
use Rattle.px_model.proofs.worked.the_clock_makes_proposals.Goals as goal

pub returns : goal.returns
returns c = the_clock_makes_proposals
