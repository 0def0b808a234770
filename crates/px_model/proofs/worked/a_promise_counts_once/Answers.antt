use Rattle.px_model.proofs.SingleSteps.{a_promise_counts_once}
use Rattle.px_model.proofs.worked.a_promise_counts_once.Goals as goal

pub returns : goal.returns
returns c = a_promise_counts_once
