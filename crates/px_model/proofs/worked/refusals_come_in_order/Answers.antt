use Rattle.px_model.proofs.SingleSteps.{refusals_come_in_order}
use Rattle.px_model.proofs.worked.refusals_come_in_order.Goals as goal

pub returns : goal.returns
returns c = refusals_come_in_order
