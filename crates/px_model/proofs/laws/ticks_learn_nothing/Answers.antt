use Rattle.px_model.proofs.Reach.{ticks_learn_nothing}
use Rattle.px_model.proofs.laws.ticks_learn_nothing.Goals as goal

pub returns : goal.returns
returns g c = ticks_learn_nothing
