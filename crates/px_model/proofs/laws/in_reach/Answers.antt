use Rattle.px_model.proofs.Reach.{always_in_reach}
use Rattle.px_model.proofs.laws.in_reach.Goals as goal

pub returns : goal.returns
returns g c same n events m = always_in_reach same n events m
