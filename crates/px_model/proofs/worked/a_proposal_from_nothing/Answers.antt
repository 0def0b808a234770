use Rattle.px_model.proofs.MoreCases.{a_proposal_from_nothing}
use Rattle.px_model.proofs.worked.a_proposal_from_nothing.Goals as goal

pub returns : goal.returns
returns c = a_proposal_from_nothing
