use Rattle.std.proofs.Common.{◌≡◌, ◌≤◌, length, map, drop, None}
use Rattle.pf_rules.specs.Seen.{rule_of}
use Rattle.pf_eval.specs.inner.TwoWalks.{last_rule, flat_last}
use Rattle.pf_eval.proofs.flat.last_other.Given as goal

-- none of the rules behind has a hit
abbrev pub invariant-loop-left : goal.invariant-loop-left
invariant-loop-left l = record {
  none : last_rule (flat_last l.packet) l.left (map rule_of (drop l.left l.items)) ≡ None;
  few : l.left ≤ length l.items;
}

abbrev pub decreases-loop-left : goal.decreases-loop-left
decreases-loop-left l = l.left
