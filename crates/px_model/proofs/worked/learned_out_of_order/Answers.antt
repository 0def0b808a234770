use Rattle.px_model.proofs.WorkedRuns.{learned_out_of_order}
use Rattle.px_model.proofs.worked.learned_out_of_order.Goals as goal

pub returns : goal.returns
returns c = learned_out_of_order
