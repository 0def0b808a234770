use Rattle.px_model.proofs.Reach.{fronts_stay}
use Rattle.px_model.proofs.laws.fronts_stay.Goals as goal

pub returns : goal.returns
returns g c = fronts_stay
