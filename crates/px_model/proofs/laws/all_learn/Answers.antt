use Rattle.px_model.proofs.Following.{all_learn}
use Rattle.px_model.proofs.laws.all_learn.Goals as goal

pub returns : goal.returns
returns g c same exact n some small events members top r m before e waits low enough =
    all_learn same exact n some small events members top r m before e waits low enough
