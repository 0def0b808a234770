use Rattle.std.proofs.Common.{◌≡◌, map, drop}
use Rattle.pf_rules.specs.Seen.{rule_of}
use Rattle.pf_eval.specs.inner.TwoWalks.{first_rule, flat_stop}
use Rattle.pf_eval.proofs.flat.first_quick.Given as goal

-- the first stop is among the rules that are left
abbrev pub invariant-loop-index : goal.invariant-loop-index
invariant-loop-index l = first_rule (flat_stop l.packet) l.index (map rule_of (drop l.index l.items)) ≡ first_rule (flat_stop l.packet) 0 (map rule_of l.items)
