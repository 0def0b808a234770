use Rattle.std.proofs.Common.{length}
use Rattle.pf_config.proofs.anchor.+with_entry.Given as goal

abbrev pub decreases-with_entry : goal.decreases-with_entry
decreases-with_entry l = length l.rest.now
