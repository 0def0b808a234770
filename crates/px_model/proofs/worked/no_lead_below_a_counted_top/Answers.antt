use Rattle.px_model.proofs.WorkedRuns.{no_lead_below_a_counted_top}
use Rattle.px_model.proofs.worked.no_lead_below_a_counted_top.Goals as goal

pub returns : goal.returns
returns c = no_lead_below_a_counted_top
