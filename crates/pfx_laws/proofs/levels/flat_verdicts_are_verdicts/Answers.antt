use Rattle.pfx_laws.proofs.Alone.{flat_is}
use Rattle.pfx_laws.proofs.levels.flat_verdicts_are_verdicts.Goals as goal

pub returns : goal.returns
returns c = flat_is
