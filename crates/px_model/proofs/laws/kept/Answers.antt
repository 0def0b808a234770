use Rattle.px_model.proofs.Runs.{always_kept}
use Rattle.px_model.proofs.laws.kept.Goals as goal

pub returns : goal.returns
returns g c same exact n some small events = always_kept same exact n small events
