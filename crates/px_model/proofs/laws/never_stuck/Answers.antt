use Rattle.px_model.proofs.Finishing.{never_stuck}
use Rattle.px_model.proofs.laws.never_stuck.Goals as goal

pub returns : goal.returns
returns g c same exact n some small events members top r m before e waits low enough =
    never_stuck same exact n some small events members top r m before e waits low enough
