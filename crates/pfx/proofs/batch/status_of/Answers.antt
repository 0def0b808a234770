use Rattle.std.proofs.Common.{rules, Some}
use Rattle.pfx.proofs.batch.status_of.Goals as goal

-- `show` was run, or another subcommand
pub returns-in-show-clause-run : goal.returns-in-show-clause-run
returns-in-show-clause-run g c = let (run, made, ends) = c.run_kept.ensures in (Some run, ends, made)

pub returns-clause-run : goal.returns-clause-run
returns-clause-run g c = (Some _, search rules, c.run.ensures)
