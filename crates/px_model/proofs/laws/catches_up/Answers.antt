use Rattle.px_model.proofs.CatchingUp.{member_catches_up}
use Rattle.px_model.proofs.laws.catches_up.Goals as goal

pub returns : goal.returns
returns g c same exact n some small events k m lk lm uk um idle_ =
    member_catches_up same exact n some small events k m lk lm uk um idle_
