use Rattle.px_model.proofs.MoreCases.{a_lead_comes_to_the_front}
use Rattle.px_model.proofs.worked.a_lead_comes_to_the_front.Goals as goal

pub returns : goal.returns
returns c = a_lead_comes_to_the_front
