use Rattle.px_model.proofs.WorkedRuns.{what_was_learned_is_kept}
use Rattle.px_model.proofs.worked.what_was_learned_is_kept.Goals as goal

pub returns : goal.returns
returns c = what_was_learned_is_kept
