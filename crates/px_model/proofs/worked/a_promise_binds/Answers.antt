use Rattle.px_model.proofs.SingleSteps.{a_promise_binds}
use Rattle.px_model.proofs.worked.a_promise_binds.Goals as goal

pub returns : goal.returns
returns c = a_promise_binds
