-- what is left decides of what is met behind it
use Rattle.std.proofs.Common.{◌≡◌, ◌+◌, ◌-◌, ◌*◌, map, drop}
use Rattle.pf_rules.specs.Seen.{rule_of}
use Rattle.pf_config.specs.Trees.{paths_of, shared}
use Rattle.node_requests.specs.Bounded.{met_in, met_members, met_target, most_met}
use Rattle.node_requests.specs.inner.Left.{minus}
use Rattle.node_requests.proofs.bounded.+bounded.Given as goal

abbrev pub decreases-left_after : goal.decreases-left_after
decreases-left_after l = 10 * l.depth

abbrev pub decreases-left_at : goal.decreases-left_at
decreases-left_at l = 10 * l.depth + 1

abbrev pub decreases-left_in_member : goal.decreases-left_in_member
decreases-left_in_member l = 10 * l.depth + 2

abbrev pub decreases-left_in_members : goal.decreases-left_in_members
decreases-left_in_members l = 10 * l.depth + 3

abbrev pub decreases-left_within : goal.decreases-left_within
decreases-left_within l = 10 * l.depth + 4

abbrev pub decreases-left_behind : goal.decreases-left_behind
decreases-left_behind l = 10 * l.depth + 5

abbrev pub invariant-left_after-loop-item : goal.invariant-left_after-loop-item
invariant-left_after-loop-item l =
    minus l.now (met_in (met_target (most_met (l.depth - 1) l.config) l.config l.anchor.names) (map rule_of (drop l.item-index l.item-items)))
    ≡ minus l.fn.left (most_met l.depth l.config l.anchor.names)

abbrev pub invariant-left_in_members-loop-kid : goal.invariant-left_in_members-loop-kid
invariant-left_in_members-loop-kid l = minus l.now (met_members (most_met l.depth l.config) (paths_of (shared (drop l.kid-index l.kids))))
    ≡ minus l.fn.left (met_members (most_met l.depth l.config) (paths_of (shared l.kids)))
