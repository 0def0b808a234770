use Rattle.std.proofs.Common.{◌+◌, ◌*◌, length}
use Rattle.pf_config.proofs.anchor.+changes.Given as goal

abbrev pub decreases-change_below : goal.decreases-change_below
decreases-change_below l = 2 * length l.rest.now

abbrev pub decreases-change_kid : goal.decreases-change_kid
decreases-change_kid l = 2 * length l.more.now + 1
