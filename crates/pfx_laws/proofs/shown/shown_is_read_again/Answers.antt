use Rattle.pfx_laws.proofs.Again.{shown_again}
use Rattle.pfx_laws.proofs.shown.shown_is_read_again.Goals as goal

pub returns : goal.returns
returns c = λ place profile text r few short e. shown_again place profile text r few short e
