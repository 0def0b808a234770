use Rattle.std.proofs.Common.{rules}
use Rattle.pfx.proofs.batch.run_kept.Goals as goal

-- the run that was made
pub returns-in-Failed : goal.returns-in-Failed
returns-in-Failed g c = (_, c.run.ensures, search rules)

pub returns-in_default : goal.returns-in_default
returns-in_default g c = (_, c.run.ensures, search rules)
