use Rattle.px_model.proofs.States.{always_same_state}
use Rattle.px_model.proofs.laws.same_state.Goals as goal

pub returns : goal.returns
returns g c same exact n some small before after f s k m j x y ix iy =
    always_same_state same exact n small before after f s k m j x y ix iy
