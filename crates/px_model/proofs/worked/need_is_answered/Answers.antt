use Rattle.px_model.proofs.MoreCases.{need_is_answered}
use Rattle.px_model.proofs.worked.need_is_answered.Goals as goal

pub returns : goal.returns
returns c = need_is_answered
