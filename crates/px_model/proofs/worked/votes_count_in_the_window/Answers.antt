use Rattle.px_model.proofs.SingleSteps.{votes_count_in_the_window}
use Rattle.px_model.proofs.worked.votes_count_in_the_window.Goals as goal

pub returns : goal.returns
returns c = votes_count_in_the_window
