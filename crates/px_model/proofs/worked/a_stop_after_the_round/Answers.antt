use Rattle.px_model.proofs.WorkedRuns.{a_stop_after_the_round}
use Rattle.px_model.proofs.worked.a_stop_after_the_round.Goals as goal

pub returns : goal.returns
returns c = a_stop_after_the_round
