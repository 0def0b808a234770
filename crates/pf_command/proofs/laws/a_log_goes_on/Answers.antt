use Rattle.pf_command.proofs.Log.{one_more}
use Rattle.pf_command.proofs.laws.a_log_goes_on.Goals as goal

pub returns : goal.returns
returns c = λ es e. one_more es e
