use Rattle.std.proofs.Common.{◌≡◌, map, length}
use Rattle.pf_rules.specs.Seen.{rule_of}
use Rattle.pf_dump.proofs.same_rules.same_items.Given as goal

-- where the rests are the same, and only there, all is
abbrev pub invariant-loop-left : goal.invariant-loop-left
invariant-loop-left l = record {
  all : map rule_of l.left ≡ map rule_of l.right → map rule_of l.fn.a ≡ map rule_of l.fn.b;
  back : map rule_of l.fn.a ≡ map rule_of l.fn.b → map rule_of l.left ≡ map rule_of l.right;
}

abbrev pub decreases-loop-left : goal.decreases-loop-left
decreases-loop-left l = length l.left
