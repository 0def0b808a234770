use Rattle.px_model.proofs.MoreCases.{a_stop_keeps_what_was_recorded}
use Rattle.px_model.proofs.worked.a_stop_keeps_what_was_recorded.Goals as goal

pub returns : goal.returns
returns c = a_stop_keeps_what_was_recorded
