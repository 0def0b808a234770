use Rattle.px_model.proofs.Rising.{steps_rise}
use Rattle.px_model.proofs.laws.steps_rise.Goals as goal

pub returns : goal.returns
returns g c = steps_rise
