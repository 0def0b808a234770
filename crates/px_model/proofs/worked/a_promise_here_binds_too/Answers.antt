use Rattle.px_model.proofs.MoreCases.{a_promise_here_binds_too}
use Rattle.px_model.proofs.worked.a_promise_here_binds_too.Goals as goal

pub returns : goal.returns
returns c = a_promise_here_binds_too
