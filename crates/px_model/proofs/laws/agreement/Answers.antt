use Rattle.px_model.proofs.Runs.{always_agree}
use Rattle.px_model.proofs.laws.agreement.Goals as goal

pub returns : goal.returns
returns g c same exact n some small events = always_agree same exact n small events
