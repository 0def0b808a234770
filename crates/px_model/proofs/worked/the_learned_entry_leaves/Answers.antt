use Rattle.px_model.proofs.SingleSteps.{the_learned_entry_leaves}
use Rattle.px_model.proofs.worked.the_learned_entry_leaves.Goals as goal

pub returns : goal.returns
returns c = the_learned_entry_leaves
