use Rattle.px_model.proofs.Enough.{reads_suffice}
use Rattle.px_model.proofs.laws.reads_suffice.Goals as goal

pub returns : goal.returns
returns c = reads_suffice
