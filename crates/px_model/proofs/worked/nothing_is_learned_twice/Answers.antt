use Rattle.px_model.proofs.MoreCases.{nothing_is_learned_twice}
use Rattle.px_model.proofs.worked.nothing_is_learned_twice.Goals as goal

pub returns : goal.returns
returns c = nothing_is_learned_twice
