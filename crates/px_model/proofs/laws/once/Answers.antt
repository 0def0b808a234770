use Rattle.px_model.proofs.Runs.{always_once}
use Rattle.px_model.proofs.laws.once.Goals as goal

pub returns : goal.returns
returns g c same exact n some small events = always_once same exact n small events
