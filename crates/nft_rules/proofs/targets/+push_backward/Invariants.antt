use Rattle.std.proofs.Common.{length}
use Rattle.nft_rules.proofs.targets.+push_backward.Given as goal

abbrev pub decreases-push_backward : goal.decreases-push_backward
decreases-push_backward l = length l.paths.now
