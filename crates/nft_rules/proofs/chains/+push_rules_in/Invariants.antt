use Rattle.std.proofs.Common.{length}
use Rattle.nft_rules.proofs.chains.+push_rules_in.Given as goal

abbrev pub decreases-push_rules_in : goal.decreases-push_rules_in
decreases-push_rules_in l = length l.items.now
